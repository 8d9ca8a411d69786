use Rattle.std.proofs.Common.{ℕ, ◌<◌, ◌≡◌, ◌≢◌, None, Some, map}
use Rattle.std.specs.Prelude.{slice_get}
use Rattle.gate_graph.specs.Circuit.{net_of}
use Rattle.gate_net.specs.Net.{kind_of}
use Rattle.fault_sim.specs.Following.{Stands}
use Rattle.fault_sim.proofs.placing.any_misplaced.Given as goal

abbrev pub invariant-loop-node : goal.invariant-loop-node
invariant-loop-node l = (k y : ℕ) → k < l.node-index → slice_get (map (λ n. n.0) l.changed) k ≡ Some y → kind_of (net_of l.graph) y ≢ None → Stands (net_of l.graph) (map (λ n. n.0) l.order) l.places y
