use Rattle.refutation.proofs.Refuting.{trees_refute}
use Rattle.refutation.proofs.laws.trees_refute.Goals as goal

pub returns : goal.returns
returns c = trees_refute
