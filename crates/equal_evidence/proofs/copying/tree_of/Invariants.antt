use Rattle.std.proofs.Common.{take, ◌≡◌}
use Rattle.equal_evidence.proofs.copying.tree_of.Given as goal

abbrev pub invariant-loop-item : goal.invariant-loop-item
invariant-loop-item l = l.tree ≡ take l.item-index l.items
