use Rattle.std.proofs.Common.{arith, not, sym, ◌∙◌, ◌≡◌}
use Rattle.gate_graph.specs.Circuit.{net_of}
use Rattle.gate_net.specs.Net.{drivers_of}
use Rattle.implications.proofs.DoneLines.{no_side, stuck_below, stuck_side}
use Rattle.implications.proofs.GateLines.{side_done}
use Rattle.implications.proofs.done_lines.sides_are_done.Goals as goal
use Rattle.refutation.specs.FactSets.{held_by}

pub returns-then-open-eq0 : goal.returns-then-open-eq0
returns-then-open-eq0 c e =
    side_done (net_of c.args.question.now.graph.now) c.args.question.now.fault c.args.facts.now c.requires.ready.formed c.requires.free c.args.node c.args.c c.requires.kind
    (no_side (net_of c.args.question.now.graph.now) c.args.question.now.fault c.args.facts.now c.requires.ready c.requires.free c.args.node c.args.tally.now c.requires.tally (not c.args.c)
    (sym (c.count_not_passing-open.ensures (held_by c.args.facts.now) c.args.question.now.fault.position (drivers_of (net_of c.args.question.now.graph.now) c.args.node.0) c.requires.tally) ∙ c.if-open-eq0.true))

pub is_open_side-requires : goal.is_open_side-requires
is_open_side-requires c = stuck_below (net_of c.args.question.now.graph.now) c.args.question.now.fault c.args.facts.now c.requires.ready c.requires.free c.args.node c.args.tally.now c.requires.tally c.if-node-question.false

pub returns : goal.returns
returns c e =
    let one : c.count_not_passing-open.result ≡ 1 = omega (arith, c.if-open-eq0.false, c.if-open-gt1.false) in
    side_done (net_of c.args.question.now.graph.now) c.args.question.now.fault c.args.facts.now c.requires.ready.formed c.requires.free c.args.node c.args.c c.requires.kind
    (stuck_side (net_of c.args.question.now.graph.now) c.args.question.now.fault c.args.facts.now c.requires.ready c.requires.free c.args.node c.args.tally.now c.requires.tally (not c.args.c)
    (sym (c.count_not_passing-open.ensures (held_by c.args.facts.now) c.args.question.now.fault.position (drivers_of (net_of c.args.question.now.graph.now) c.args.node.0) c.requires.tally) ∙ one) c.if-node-question.false (c.is_open_side.ensures.0 e))
