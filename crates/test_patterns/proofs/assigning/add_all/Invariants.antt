use Rattle.std.proofs.Common.{◌-◌, ◌≤◌, length}
use Rattle.gate_graph.specs.Circuit.{net_of}
use Rattle.fault_sim.specs.LaneStates.{Fits}
use Rattle.test_patterns.specs.Inner.Drafts.{IsDraft}
use Rattle.test_patterns.proofs.assigning.add_all.Given as goal

abbrev pub invariant-loop-from : goal.invariant-loop-from
invariant-loop-from l =
    IsDraft (net_of l.known.graph.now) l.known.faults.now l.known.vectors.now l.known.numbers.now l.set.patterns.items l.set.firsts.items
    × (Fits l.lanes (net_of l.known.graph.now) × (l.from ≤ length l.order))

abbrev pub decreases-loop-from : goal.decreases-loop-from
decreases-loop-from l = length l.order - l.from
