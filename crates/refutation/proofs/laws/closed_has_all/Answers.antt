use Rattle.refutation.proofs.Closings.{closed_has_all}
use Rattle.refutation.proofs.laws.closed_has_all.Goals as goal

pub returns : goal.returns
returns c = closed_has_all
