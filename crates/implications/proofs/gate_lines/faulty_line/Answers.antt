use Rattle.std.proofs.Common.{None, subst}
use Rattle.gate_graph.specs.Circuit.{net_of}
use Rattle.gate_net.specs.Net.{drivers_of}
use Rattle.implications.proofs.GateLines.{faulty_done, faulty_gate, faulty_pin, pulled_gate, pulled_pin}
use Rattle.implications.proofs.gate_lines.faulty_line.Goals as goal
use Rattle.implications.specs.Inner.Pulls.{IsPull}
use Rattle.refutation.specs.FactSets.{held_by}
use Rattle.refutation.specs.Pins.{known_on, pins_of, stuck_of}
use Rattle.refutation.specs.declared.pins.Aspect.TheVariants.{OfFaulty}

pub returns-in_err-value : goal.returns-in_err-value
returns-in_err-value c = rw c.from_residual.ensures (faulty_done (net_of c.args.question.now.graph.now) c.args.question.now.fault c.args.facts.now c.requires.ready.formed c.requires.free c.args.node c.args.c c.requires.kind (subst (λ s. IsPull c.args.c (pins_of s OfFaulty (held_by c.args.facts.now) (drivers_of (net_of c.args.question.now.graph.now) c.args.node.0)) (known_on OfFaulty (held_by c.args.facts.now) c.args.node.0) None) c.stuck_at.ensures c.in_err-value.ensures))

pub returns-in-Gate : goal.returns-in-Gate
returns-in-Gate c = faulty_gate (net_of c.args.question.now.graph.now) c.args.question.now.fault c.args.facts.now c.requires.ready.formed c.requires.free c.args.node c.args.c c.requires.kind c.in-Gate.value (pulled_gate (net_of c.args.question.now.graph.now) c.args.node.0 (IsPull c.args.c (pins_of (stuck_of c.args.question.now.fault c.args.node.0) OfFaulty (held_by c.args.facts.now) (drivers_of (net_of c.args.question.now.graph.now) c.args.node.0)) (known_on OfFaulty (held_by c.args.facts.now) c.args.node.0)) c.pull_value.result c.in_ok-value.field-0 c.in-Gate.value c.in_ok-value.was c.in-Gate.is (rw c.stuck_at.ensures at c.pull_value.ensures))

pub returns-in-Pin : goal.returns-in-Pin
returns-in-Pin c =
    let p = pulled_pin (net_of c.args.question.now.graph.now) c.args.node.0 (IsPull c.args.c (pins_of (stuck_of c.args.question.now.fault c.args.node.0) OfFaulty (held_by c.args.facts.now) (drivers_of (net_of c.args.question.now.graph.now) c.args.node.0)) (known_on OfFaulty (held_by c.args.facts.now) c.args.node.0)) c.pull_value.result c.in_ok-value.field-0 c.in-Pin.position c.in-Pin.driver c.in-Pin.value c.in_ok-value.was c.in-Pin.is (rw c.stuck_at.ensures at c.pull_value.ensures) in
    faulty_pin (net_of c.args.question.now.graph.now) c.args.question.now.fault c.args.facts.now c.requires.ready.formed c.requires.free c.args.node c.args.c c.requires.kind c.in-Pin.position c.in-Pin.driver c.in-Pin.value p.0 p.1
