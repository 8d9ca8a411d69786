use Rattle.gate_graph.proofs.Pinned.{pin-in, pin-there}
use Rattle.gate_graph.proofs.state.Graph.pin_of.Goals as goal

pub unreachable-requires : goal.unreachable-requires
unreachable-requires c = pin-there c.args.self.now c.pin_at.ensures.graph.wired.shape c.args.gate.0 c.args.position c.requires c.in-None.ensures.pin

pub returns-clause-linked : goal.returns-clause-linked
returns-clause-linked c =
    let v = c.args.self.now in
    let s = c.pin_at.ensures.graph.wired.shape in
    let in_gate = pin-in v s c.args.gate.0 c.args.position c.in-Some.pin.0 c.in-Some.ensures.pin in
    ((c.args.gate.0, in_gate), s.driven c.args.gate.0 c.in-Some.pin.0 in_gate)
