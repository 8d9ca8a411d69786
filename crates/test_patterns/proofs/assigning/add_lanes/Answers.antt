use Rattle.gate_graph.specs.Circuit.{net_of}
use Rattle.test_patterns.proofs.Extended.{gathered_fewer}
use Rattle.test_patterns.proofs.assigning.add_lanes.Goals as goal

pub loop-lane-preserved : goal.loop-lane-preserved
loop-lane-preserved c = (
  c.in_ok-add_in_lane.ensures.draft,
  gathered_fewer (net_of c.args.known.now.graph.now) c.args.known.now.faults.now c.args.known.now.numbers.now c.loop-lane.set.firsts.items c.add_in_lane.new.set.firsts.items c.args.words.now c.args.caught.now c.in_ok-add_in_lane.ensures.fewer c.loop-lane.invariant.1,
)
