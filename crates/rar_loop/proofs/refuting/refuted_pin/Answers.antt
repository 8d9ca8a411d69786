use Rattle.std.proofs.Common.{Bool, true, false}
use Rattle.gate_net.specs.Net.{Net, drivers_of}
use Rattle.gate_graph.specs.Circuit.{net_of}
use Rattle.refutation.specs.Detected.{HasOpenSet}
use Rattle.rar_loop.proofs.Looking.{both_values, looked_none}
use Rattle.rar_loop.proofs.refuting.refuted_pin.Goals as goal
use Rattle.rm_base.proofs.Public.{stands_below}

pub invariant_of-question : goal.invariant_of-question
invariant_of-question c = record { pin = stands_below (drivers_of (net_of c.args.graph.now) c.args.gate.0) c.args.position c.requires.pin }

pub invariant_of-question-2 : goal.invariant_of-question-2
invariant_of-question-2 c = record { pin = stands_below (drivers_of (net_of c.args.graph.now) c.args.gate.0) c.args.position c.requires.pin }

pub returns-clause-looked : goal.returns-clause-looked
returns-clause-looked c =
    let net : Net = net_of c.args.graph.now in
    both_values (λ (b : Bool). HasOpenSet net (record { gate = c.args.gate; position = c.args.position; value = b }) c.args.depth)
    (looked_none net (record { gate = c.args.gate; position = c.args.position; value = false }) c.args.depth c.in_ok-tree.field-0 c.in_default.not-Some c.in_ok-tree.ensures.looked)
    (looked_none net (record { gate = c.args.gate; position = c.args.position; value = true }) c.args.depth c.in_ok-tree-2.field-0 c.in_default-2.not-Some c.in_ok-tree-2.ensures.looked)
