use Rattle.std.proofs.Common.{None}
use Rattle.gate_graph.specs.Circuit.{net_of}
use Rattle.gate_net.specs.Net.{drivers_of}
use Rattle.implications.proofs.GateLines.{equal_at_fault, equal_done, equal_gate, equal_pin, pulled_gate, pulled_pin}
use Rattle.implications.proofs.gate_lines.equal_line.Goals as goal
use Rattle.implications.specs.Inner.Pulls.{IsEqualPull}
use Rattle.refutation.specs.FactSets.{held_by}
use Rattle.refutation.specs.Pins.{known_on, pins_of}
use Rattle.refutation.specs.declared.pins.Aspect.TheVariants.{OfEqual}

pub returns-then-node-question : goal.returns-then-node-question
returns-then-node-question c = equal_at_fault (net_of c.args.question.now.graph.now) c.args.question.now.fault c.args.facts.now c.requires.ready.formed c.requires.free c.args.node c.if-node-question.true

pub returns-in_err-pull_equal : goal.returns-in_err-pull_equal
returns-in_err-pull_equal c = rw c.from_residual.ensures (equal_done (net_of c.args.question.now.graph.now) c.args.question.now.fault c.args.facts.now c.requires.ready.formed c.requires.free c.args.node c.in_err-pull_equal.ensures)

pub returns-in-Gate : goal.returns-in-Gate
returns-in-Gate c =
    equal_gate (net_of c.args.question.now.graph.now) c.args.question.now.fault c.args.facts.now c.requires.ready.formed c.requires.free c.args.node c.in-Gate.field-0 c.requires.kind c.if-node-question.false
    (pulled_gate (net_of c.args.question.now.graph.now) c.args.node.0 (IsEqualPull (pins_of None OfEqual (held_by c.args.facts.now) (drivers_of (net_of c.args.question.now.graph.now) c.args.node.0)) (known_on OfEqual (held_by c.args.facts.now) c.args.node.0)) c.pull_equal.result c.in_ok-pull_equal.field-0 c.in-Gate.field-0 c.in_ok-pull_equal.was c.in-Gate.is c.pull_equal.ensures)

pub returns-in-Pin : goal.returns-in-Pin
returns-in-Pin c =
    let p = pulled_pin (net_of c.args.question.now.graph.now) c.args.node.0 (IsEqualPull (pins_of None OfEqual (held_by c.args.facts.now) (drivers_of (net_of c.args.question.now.graph.now) c.args.node.0)) (known_on OfEqual (held_by c.args.facts.now) c.args.node.0)) c.pull_equal.result c.in_ok-pull_equal.field-0 c.in-Pin.position c.in-Pin.driver c.in-Pin.field-2 c.in_ok-pull_equal.was c.in-Pin.is c.pull_equal.ensures in
    equal_pin (net_of c.args.question.now.graph.now) c.args.question.now.fault c.args.facts.now c.requires.ready.formed c.requires.free c.args.node c.in-Pin.position c.in-Pin.driver c.in-Pin.field-2 c.requires.kind c.if-node-question.false p.0 p.1
