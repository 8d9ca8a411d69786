use Rattle.gate_graph.specs.Circuit.{net_of}
use Rattle.podem.proofs.node_set.NodeSet.visit_readers.Goals as goal
use Rattle.refutation.proofs.Public.{live_from}

pub readers_of-reader-items-requires : goal.readers_of-reader-items-requires
readers_of-reader-items-requires c = live_from (net_of c.args.graph.now) c.args.node.0 c.kind.result c.in-Some.field-0 c.kind.ensures c.in-Some.is
