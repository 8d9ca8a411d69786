use Rattle.refutation.proofs.Live.{concludes_live}
use Rattle.refutation.proofs.laws.lines_are_live.Goals as goal

pub returns : goal.returns
returns c = concludes_live
