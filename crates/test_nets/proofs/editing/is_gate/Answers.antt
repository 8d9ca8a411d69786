use Rattle.gate_graph.specs.Circuit.{net_of}
use Rattle.gate_graph.proofs.Public.{kind-known}
use Rattle.test_nets.proofs.editing.is_gate.Goals as goal

pub returns-in-Some : goal.returns-in-Some
returns-in-Some c e = (c.in-Some.kind, (kind-known (net_of c.args.graph.now) c.args.node.0 c.in-Some.kind c.kind.result c.kind.ensures c.in-Some.is, c.is_gate.ensures.gate.0 e))
