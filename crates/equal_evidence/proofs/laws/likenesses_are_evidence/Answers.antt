use Rattle.equal_evidence.proofs.Showing.{likenesses}
use Rattle.equal_evidence.proofs.laws.likenesses_are_evidence.Goals as goal

pub returns : goal.returns
returns c = likenesses
