use Rattle.refutation.proofs.Depths.{known_held}
use Rattle.refutation.proofs.laws.known_is_held.Goals as goal

pub returns : goal.returns
returns c = known_held
