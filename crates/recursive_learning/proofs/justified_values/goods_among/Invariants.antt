use Rattle.std.proofs.Common.{take}
use Rattle.recursive_learning.specs.Inner.Common.{AreGoodsOf}
use Rattle.refutation.specs.FactSets.{held_by}
use Rattle.recursive_learning.proofs.justified_values.goods_among.Given as goal

abbrev pub invariant-loop-entry : goal.invariant-loop-entry
invariant-loop-entry l = AreGoodsOf (take l.entry-index l.added) (held_by l.facts) l.goods.items
