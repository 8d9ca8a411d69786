use Rattle.std.proofs.Common.{◌≡◌, length, map}
use Rattle.gate_graph.specs.Circuit.{net_of}
use Rattle.fault_sim.specs.Following.{AreTouched}
use Rattle.fault_sim.proofs.following.touch_all.Given as goal

abbrev pub invariant-loop-node : goal.invariant-loop-node
invariant-loop-node l = record {
  touched : AreTouched (net_of l.graph) (map (λ n. n.0) l.order) l.places (map (λ n. n.0) l.changed) l.fn.good.items l.good.items l.pending.items l.node-index;
  good : length l.good.items ≡ length l.fn.good.items;
  pending : length l.pending.items ≡ length l.fn.pending.items;
}
