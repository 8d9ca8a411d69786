use Rattle.gate_graph.specs.Circuit.{net_of}
use Rattle.fault_decision.proofs.frontier.goal_after.Goals as goal
use Rattle.refutation.proofs.Public.{live_from}

pub readers_of-reader-items-requires : goal.readers_of-reader-items-requires
readers_of-reader-items-requires c = live_from (net_of c.args.graph.now) c.args.node.0 c.kind.result c.in-Some._kind c.kind.ensures c.in-Some.is
