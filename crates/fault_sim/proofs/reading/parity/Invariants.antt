use Rattle.std.proofs.Common.{◌≡◌, ◌++◌, length, map, take}
use Rattle.std.specs.List.{fold}
use Rattle.std.specs.Prelude.{bit_xor}
use Rattle.fault_sim.specs.Inner.Words.{word_of}
use Rattle.fault_sim.specs.Inner.Spreading.{spread_word, stuck_reads}
use Rattle.fault_sim.proofs.reading.parity.Given as goal

abbrev pub invariant-loop-driver : goal.invariant-loop-driver
invariant-loop-driver l = record {
  all : l.fn.drivers ≡ map (λ d. d.0) l.yielded ++ l.driver-iterator;
  count : l.q ≡ length l.yielded;
  word : l.word ≡ fold bit_xor (word_of l.inverts) (take l.q (stuck_reads l.stuck (map (spread_word l.good l.spread) l.fn.drivers)));
}
