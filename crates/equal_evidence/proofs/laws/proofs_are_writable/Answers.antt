use Rattle.equal_evidence.proofs.Putting.{proofs_writable}
use Rattle.equal_evidence.proofs.laws.proofs_are_writable.Goals as goal

pub returns : goal.returns
returns c = proofs_writable
