use Rattle.refutation.proofs.Depths.{detected_never_clashes}
use Rattle.refutation.proofs.laws.detected_never_clashes.Goals as goal

pub returns : goal.returns
returns c = detected_never_clashes
