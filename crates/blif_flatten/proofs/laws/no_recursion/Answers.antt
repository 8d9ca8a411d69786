use Rattle.blif_flatten.proofs.NoRecursion.{no-recursion}
use Rattle.blif_flatten.proofs.laws.no_recursion.Goals as goal

pub returns : goal.returns
returns c = no-recursion
