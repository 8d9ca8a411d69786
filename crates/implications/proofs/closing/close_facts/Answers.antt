use Rattle.std.proofs.Common.{List, ap, ◌++◌, ◌∙◌}
use Rattle.gate_graph.specs.Circuit.{net_of}
use Rattle.implications.proofs.Closes.{grown_clash}
use Rattle.implications.proofs.closing.close_facts.Goals as goal
use Rattle.implications.specs.Outcomes.{clash_items}
use Rattle.refutation.specs.declared.items.Item.{Item}

pub returns-in_ok-tree-in-Some-clause-grown : goal.returns-in_ok-tree-in-Some-clause-grown
returns-in_ok-tree-in-Some-clause-grown c =
    grown_clash (net_of c.args.question.now.graph.now) c.args.question.now.fault c.args.facts c.grow_all_lines.new.facts c.args.log.now.lines.items c.grow_all_lines.new.log.lines.items c.in_ok-node.field-0 c.in-Some.node c.in_ok-tree-in-Some.tree c.requires.lines c.in_ok-node.ensures.works c.in-Some.is c.in_ok-node.ensures.closes
    (c.in_ok-tree-in-Some.ensures ∙ ap (λ (tree : List Item). tree ++ clash_items c.as_slice.result.now c.in-Some.node) c.new.ensures ∙ ap (λ lines. clash_items lines c.in-Some.node) c.as_slice.ensures.value)
