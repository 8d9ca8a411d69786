use Rattle.std.proofs.Common.{◌-◌, ◌≡◌, ◌≤◌, length, map}
use Rattle.gate_graph.specs.Circuit.{net_of}
use Rattle.fault_sim.specs.Following.{IsRereading}
use Rattle.fault_sim.specs.Inner.Spreading.{AreLanes, IsUnstamped}
use Rattle.fault_sim.proofs.following.reread.Given as goal

abbrev pub invariant-loop-place : goal.invariant-loop-place
invariant-loop-place l = record {
  rereading : IsRereading (net_of l.graph) l.words (map (λ n. n.0) l.order) l.good.items l.spread.pending.items l.at;
  lanes : AreLanes (map (λ n. n.0) l.order) l.places l.good.items l.spread;
  unstamped : IsUnstamped l.spread;
  within : l.at ≤ length l.order;
  size : length l.good.items ≡ length l.fn.good.items;
}

abbrev pub decreases-loop-place : goal.decreases-loop-place
decreases-loop-place l = length l.order - l.at
