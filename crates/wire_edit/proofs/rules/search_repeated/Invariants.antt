use Rattle.std.proofs.Common.{◌≡◌, ◌<◌, ◌++◌, ℕ, map, length, false}
use Rattle.gate_graph.specs.Circuit.{net_of}
use Rattle.gate_net.specs.Net.{drivers_of}
use Rattle.wire_edit.specs.Tests.{is_repeated}
use Rattle.wire_edit.proofs.rules.search_repeated.Given as goal

abbrev pub invariant-loop-driver : goal.invariant-loop-driver
invariant-loop-driver l = record {
  all : drivers_of (net_of l.graph) l.fn.gate.0 ≡ map (λ n. n.0) l.yielded ++ l.driver-iterator;
  count : l.position ≡ length l.yielded;
  none : (k : ℕ) → k < l.position → is_repeated (drivers_of (net_of l.graph) l.fn.gate.0) k ≡ false;
}
