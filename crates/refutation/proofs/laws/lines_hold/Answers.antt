use Rattle.refutation.proofs.LinesRight.{lines_hold}
use Rattle.refutation.proofs.laws.lines_hold.Goals as goal

pub returns : goal.returns
returns c = lines_hold
