use Rattle.std.proofs.Common.{take, ◌++◌, ◌≡◌}
use Rattle.recursive_learning.proofs.bodies.push_items.Given as goal

abbrev pub invariant-loop-item : goal.invariant-loop-item
invariant-loop-item l = l.tree ≡ l.fn.tree ++ take l.item-index l.items
