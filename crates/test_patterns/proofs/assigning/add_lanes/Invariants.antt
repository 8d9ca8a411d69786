use Rattle.gate_graph.specs.Circuit.{net_of}
use Rattle.test_patterns.specs.Inner.Drafts.{IsDraft}
use Rattle.test_patterns.specs.Inner.Groups.{AreGathered}
use Rattle.test_patterns.proofs.assigning.add_lanes.Given as goal

abbrev pub invariant-loop-lane : goal.invariant-loop-lane
invariant-loop-lane l =
    IsDraft (net_of l.known.graph.now) l.known.faults.now l.known.vectors.now l.known.numbers.now l.set.patterns.items l.set.firsts.items
    × AreGathered (net_of l.known.graph.now) l.known.faults.now l.known.numbers.now l.set.firsts.items l.words l.caught
