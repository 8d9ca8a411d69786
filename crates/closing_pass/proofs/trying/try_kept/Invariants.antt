use Rattle.gate_graph.specs.Circuit.{net_of}
use Rattle.fault_sim.specs.LaneStates.{Fits}
use Rattle.std.proofs.Common.{◌≤◌, ◌-◌, length}
use Rattle.closing_pass.specs.Inner.Trying.{HasTried}
use Rattle.closing_pass.proofs.trying.try_kept.Given as goal

abbrev pub invariant-loop-first : goal.invariant-loop-first
invariant-loop-first l = record {
  tried : HasTried (net_of l.graph) l.kept l.from l.first l.faults l.initial.found.items l.found.items;
  fits : Fits l.lanes (net_of l.graph);
  low : l.from ≤ l.first;
  high : l.first ≤ length l.kept;
}

abbrev pub decreases-loop-first : goal.decreases-loop-first
decreases-loop-first l = length l.kept - l.first
