use Rattle.gate_graph.specs.Circuit.{net_of}
use Rattle.fault_sim.specs.LaneStates.{Fits}
use Rattle.test_patterns.specs.Inner.Drafts.{IsDraft}
use Rattle.test_patterns.proofs.Assigned.{NoneOpenBefore}
use Rattle.test_patterns.proofs.assigning.add_open.Given as goal

abbrev pub invariant-loop-at : goal.invariant-loop-at
invariant-loop-at l =
    IsDraft (net_of l.known.graph.now) l.known.faults.now l.known.vectors.now l.known.numbers.now l.set.patterns.items l.set.firsts.items
    × (Fits l.lanes (net_of l.known.graph.now) × NoneOpenBefore l.known.numbers.now l.set.firsts.items l.at)
