use Rattle.std.proofs.Common.{◌≡◌, ◌<◌, ◌+◌, ◌++◌, ℕ, map, drop, length, false}
use Rattle.gate_graph.specs.Circuit.{net_of}
use Rattle.gate_net.specs.Net.{drivers_of}
use Rattle.wire_edit.specs.Inner.Firsts.{reads_constant}
use Rattle.wire_edit.proofs.rules.constant_from.Given as goal

abbrev pub invariant-loop-driver : goal.invariant-loop-driver
invariant-loop-driver l = record {
  all : drop l.fn.from (drivers_of (net_of l.graph) l.fn.gate.0) ≡ map (λ n. n.0) l.yielded ++ l.driver-iterator;
  count : l.position ≡ l.fn.from + length l.yielded;
  none : (k : ℕ) → k < l.position → reads_constant (net_of l.graph) l.fn.gate.0 k ≡ false;
}
