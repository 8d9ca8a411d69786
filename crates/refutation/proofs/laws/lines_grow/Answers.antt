use Rattle.refutation.proofs.Grows.{lines_grow}
use Rattle.refutation.proofs.laws.lines_grow.Goals as goal

pub returns : goal.returns
returns c = lines_grow
