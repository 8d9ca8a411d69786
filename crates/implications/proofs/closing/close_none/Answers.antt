use Rattle.std.proofs.Common.{ap, arith, length, ◌++◌, ◌∙◌, ◌≤◌}
use Rattle.gate_graph.specs.Circuit.{net_of}
use Rattle.implications.proofs.Closes.{closing_clash, closing_open}
use Rattle.implications.proofs.closing.close_none.Goals as goal
use Rattle.implications.specs.Outcomes.{clash_items}

pub returns-in_ok-closed-in-Some-clause-closing : goal.returns-in_ok-closed-in-Some-clause-closing
returns-in_ok-closed-in-Some-clause-closing c =
    closing_clash (net_of c.args.question.now.graph.now) c.args.question.now.fault c.in_ok-held.held c.add_all_lines.new.facts c.args.log.now.lines.items c.add_all_lines.new.log.lines.items c.in_ok-node.field-0 c.in-Some.node c.new-tree.result c.write_outside.new.tree c.in_ok-closed-in-Some.closed
    c.in_ok-held.ensures.outside c.requires.lines c.in_ok-node.ensures.works c.in-Some.is c.in_ok-node.ensures.closes c.new-tree.ensures c.in_ok-write_outside-in-Some.ensures
    (c.in_ok-closed-in-Some.ensures ∙ ap (λ lines. c.write_outside.new.tree ++ clash_items lines c.in-Some.node) c.as_slice.ensures.value)

pub returns-in-None-clause-closing : goal.returns-in-None-clause-closing
returns-in-None-clause-closing c =
    let room : length (net_of c.args.question.now.graph.now).nodes ≤ length c.in_ok-held.held = omega (arith, c.in_ok-held.ensures.facts) in
    closing_open (net_of c.args.question.now.graph.now) c.args.question.now.fault c.in_ok-held.held c.add_all_lines.new.facts c.args.log.now.lines.items c.add_all_lines.new.log.lines.items c.in_ok-node.field-0 c.in_ok-held.ensures.outside c.requires.lines c.in_ok-node.ensures.works c.add_all_lines.ensures.keeps.more c.add_all_lines.ensures.keeps.size room c.in-None.is c.in_ok-node.ensures.closes
