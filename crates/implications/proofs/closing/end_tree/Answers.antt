use Rattle.std.proofs.Common.{◌++◌, ◌∙◌}
use Rattle.implications.proofs.Closes.{tree_ends, tree_more}
use Rattle.implications.proofs.closing.end_tree.Goals as goal
use Rattle.implications.specs.Outcomes.{clash_items}

pub loop-line-preserved : goal.loop-line-preserved
loop-line-preserved c = rw c.in_ok-push.ensures.ok (tree_more c.args.lines.now c.loop-line.line-index _ c.loop-line.tree (c.args.tree ++ clash_items c.args.lines.now c.args.node) c.args.node c.loop-line-test.true c.loop-line.invariant)

pub returns : goal.returns
returns c = c.finish.ensures ∙ c.in_ok-push-2.ensures.ok ∙ tree_ends c.args.lines.now c.loop-line.line-index c.loop-line.tree (c.args.tree ++ clash_items c.args.lines.now c.args.node) c.args.node c.loop-line-test.false c.loop-line.invariant
