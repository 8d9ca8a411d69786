use Rattle.journal_binary.proofs.Ones.{bodies_are_one}
use Rattle.journal_binary.proofs.laws.bodies_are_one.Goals as goal

pub returns : goal.returns
returns c = bodies_are_one
