use Rattle.journal_reading.proofs.Ones.{journals_are_one}
use Rattle.journal_reading.proofs.laws.journals_are_one.Goals as goal

pub returns : goal.returns
returns c = journals_are_one c.lines_read.ensures c.journals_are_one.ensures c.bodies_are_one.ensures
