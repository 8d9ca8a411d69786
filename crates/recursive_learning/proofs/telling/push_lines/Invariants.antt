use Rattle.std.proofs.Common.{map, take, ◌++◌, ◌≡◌}
use Rattle.recursive_learning.specs.Inner.Telling.{line_item}
use Rattle.recursive_learning.proofs.telling.push_lines.Given as goal

abbrev pub invariant-loop-line : goal.invariant-loop-line
invariant-loop-line l = l.tree ≡ l.fn.tree ++ map line_item (take l.line-index l.lines)
