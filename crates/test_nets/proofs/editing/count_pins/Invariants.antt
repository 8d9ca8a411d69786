use Rattle.std.proofs.Common.{◌≡◌, ◌++◌, map, length}
use Rattle.gate_net.specs.Net.{drivers_of}
use Rattle.gate_graph.specs.Circuit.{net_of}
use Rattle.test_nets.proofs.editing.count_pins.Given as goal

abbrev pub invariant-loop : goal.invariant-loop
invariant-loop l = record {
  all : drivers_of (net_of l.graph) l.fn.node.0 ≡ map (λ n. n.0) l.yielded ++ l.iterator';
  count : l.count ≡ length l.yielded;
}
