use Rattle.std.proofs.Common.{[], ap, ◌++◌}
use Rattle.refutation.proofs.ItemsTell.{items_tell}
use Rattle.refutation.proofs.laws.items_tell_tree.Goals as goal

pub returns : goal.returns
returns c t u e = (items_tell t u [] [] (ap (λ items. items ++ []) e)).0
