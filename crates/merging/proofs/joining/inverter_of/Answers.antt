use Rattle.gate_graph.specs.Circuit.{net_of}
use Rattle.gate_graph.proofs.Public.{kind-known}
use Rattle.merging.proofs.joining.inverter_of.Goals as goal

pub readers_of-reader-items-requires : goal.readers_of-reader-items-requires
readers_of-reader-items-requires c = (c.in-Some._kind, kind-known (net_of c.args.graph.now) c.args.node.0 c.in-Some._kind c.kind.result c.kind.ensures c.in-Some.is)
