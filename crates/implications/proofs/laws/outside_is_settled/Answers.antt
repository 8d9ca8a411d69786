use Rattle.implications.proofs.Outside.{outside_settled}
use Rattle.implications.proofs.laws.outside_is_settled.Goals as goal

pub returns : goal.returns
returns c = outside_settled
