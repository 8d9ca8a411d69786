use Rattle.std.proofs.Common.{◌≡◌}
use Rattle.gate_graph.specs.Circuit.{net_of}
use Rattle.test_patterns.specs.Inner.Groups.{AreGatheredBefore}
use Rattle.test_patterns.proofs.gathering.gather.Given as goal

abbrev pub invariant-loop-at : goal.invariant-loop-at
invariant-loop-at l = AreGatheredBefore (net_of l.graph) l.faults l.numbers l.firsts l.initial.lanes.words l.caught.items l.at × (l.lanes ≡ l.initial.lanes)
