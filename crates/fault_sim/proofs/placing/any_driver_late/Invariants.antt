use Rattle.std.proofs.Common.{◌≡◌, ◌<◌, ◌++◌, Some, map, ℕ}
use Rattle.std.specs.Prelude.{slice_get, slice_index}
use Rattle.gate_graph.specs.Circuit.{net_of}
use Rattle.gate_net.specs.Net.{drivers_of}
use Rattle.fault_sim.proofs.placing.any_driver_late.Given as goal

abbrev pub invariant-loop-driver : goal.invariant-loop-driver
invariant-loop-driver l = record {
  all : drivers_of (net_of l.graph) l.fn.node.0 ≡ map (λ n. n.0) l.yielded ++ l.driver-iterator;
  before : (p d : ℕ) → slice_get (map (λ n. n.0) l.yielded) p ≡ Some d → slice_index l.places d < l.place;
}
