use Rattle.gate_graph.specs.Circuit.{net_of}
use Rattle.gate_graph.proofs.Public.{kind-known}
use Rattle.merging.proofs.signatures.parity_word.Goals as goal

pub inputs_of-driver-items-requires : goal.inputs_of-driver-items-requires
inputs_of-driver-items-requires c = (c.in-Some._kind, kind-known (net_of c.args.graph.now) c.args.gate.0 c.in-Some._kind c.kind.result c.kind.ensures c.in-Some.is)
