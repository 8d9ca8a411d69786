use Rattle.refutation.proofs.OneFact.{lines_give_one}
use Rattle.refutation.proofs.laws.lines_give_one.Goals as goal

pub returns : goal.returns
returns c = lines_give_one
