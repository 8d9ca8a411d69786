use Rattle.std.proofs.Common.{◌-◌, ◌≤◌, length, map}
use Rattle.gate_graph.specs.Circuit.{net_of}
use Rattle.fault_sim.specs.Inner.Spreading.{AreLanes, IsSpread}
use Rattle.fault_sim.proofs.spreading.spread_root.Given as goal

abbrev pub invariant-loop-place : goal.invariant-loop-place
invariant-loop-place l = record {
  spread : IsSpread (net_of l.graph) l.fn.root.0 l.word l.words (map (λ n. n.0) l.order) l.good l.spread l.at l.found;
  lanes : AreLanes (map (λ n. n.0) l.order) l.places l.good l.spread;
  within : l.at ≤ length l.order;
}

abbrev pub decreases-loop-place : goal.decreases-loop-place
decreases-loop-place l = length l.order - l.at
