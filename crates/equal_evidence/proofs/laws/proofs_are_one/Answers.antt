use Rattle.equal_evidence.proofs.One.{proofs_one}
use Rattle.equal_evidence.proofs.laws.proofs_are_one.Goals as goal

pub returns : goal.returns
returns c = proofs_one c.lines_read.ensures c.numbers_read.ensures c.journals_are_one.ensures
