use Rattle.gate_net.specs.Inner.Meaning.{TakesPins}
use Rattle.gate_graph.specs.Circuit.{net_of}
use Rattle.gate_graph.proofs.Public.{kind-known}
use Rattle.test_nets.proofs.editing.is_junction.Goals as goal

pub returns-in-Some : goal.returns-in-Some
returns-in-Some c e =
    let takes : TakesPins c.in-Some.kind = c.takes_pins.ensures.0 e in
    (takes.0, (c.in-Some.kind, (kind-known (net_of c.args.graph.now) c.args.node.0 c.in-Some.kind c.kind.result c.kind.ensures c.in-Some.is, takes.1)))
