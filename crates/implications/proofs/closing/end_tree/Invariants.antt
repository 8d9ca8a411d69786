use Rattle.std.proofs.Common.{drop, ◌++◌, ◌≡◌}
use Rattle.implications.proofs.closing.end_tree.Given as goal
use Rattle.implications.specs.Outcomes.{clash_items}

abbrev pub invariant-loop-line : goal.invariant-loop-line
invariant-loop-line l = l.tree ++ clash_items (drop l.line-index l.lines) l.fn.node ≡ l.initial.tree ++ clash_items l.lines l.fn.node
