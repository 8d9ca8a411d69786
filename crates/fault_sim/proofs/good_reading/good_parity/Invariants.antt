use Rattle.std.proofs.Common.{◌≡◌, ◌++◌, length, map, take}
use Rattle.std.specs.List.{fold}
use Rattle.std.specs.Prelude.{bit_xor, slice_index}
use Rattle.fault_sim.specs.Inner.Words.{word_of}
use Rattle.fault_sim.proofs.good_reading.good_parity.Given as goal

abbrev pub invariant-loop-driver : goal.invariant-loop-driver
invariant-loop-driver l = record {
  all : l.fn.drivers ≡ map (λ d. d.0) l.yielded ++ l.driver-iterator;
  word : l.word ≡ fold bit_xor (word_of l.inverts) (take (length l.yielded) (map (slice_index l.good) l.fn.drivers));
}
