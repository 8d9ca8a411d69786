use Rattle.gate_graph.specs.Circuit.{net_of}
use Rattle.std.proofs.Common.{◌-◌, length}
use Rattle.fault_sim.specs.LaneStates.{Fits}
use Rattle.closing_pass.specs.Inner.Findings.{HasCome}
use Rattle.closing_pass.proofs.passing.pass.Given as goal

abbrev pub invariant-loop-next : goal.invariant-loop-next
invariant-loop-next g l = record {
  come : HasCome (net_of l.graph) l.settings.budget l.kept.items (length l.kept.items) l.faults l.found.items l.next;
  fits : Fits l.lanes (net_of l.graph);
}

abbrev pub decreases-loop-next : goal.decreases-loop-next
decreases-loop-next g l = length l.faults - l.next
