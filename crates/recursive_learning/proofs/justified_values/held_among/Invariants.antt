use Rattle.std.proofs.Common.{take}
use Rattle.recursive_learning.specs.Inner.Common.{AreHeldAmong}
use Rattle.refutation.specs.FactSets.{held_by}
use Rattle.recursive_learning.proofs.justified_values.held_among.Given as goal

abbrev pub invariant-loop-good : goal.invariant-loop-good
invariant-loop-good l = AreHeldAmong (take l.good-index l.goods) (held_by l.facts) l.kept.items
