use Rattle.std.proofs.Common.{map, ◌++◌, ◌≡◌}
use Rattle.gate_graph.specs.Circuit.{net_of}
use Rattle.gate_net.specs.Net.{drivers_of}
use Rattle.recursive_learning.proofs.OpenDrivers.{OpenTo}
use Rattle.refutation.specs.FactSets.{held_by}
use Rattle.recursive_learning.proofs.gates.open_drivers.Given as goal

abbrev pub invariant-loop-driver : goal.invariant-loop-driver
invariant-loop-driver l = record {
  all : drivers_of (net_of l.graph) l.fn.gate.0 ≡ map (λ d. d.0) l.yielded ++ l.driver-iterator;
  drivers : OpenTo (net_of l.graph) (held_by l.facts) l.fn.gate.0 (map (λ d. d.0) l.yielded) (map (λ d. d.0) l.open.items);
}
