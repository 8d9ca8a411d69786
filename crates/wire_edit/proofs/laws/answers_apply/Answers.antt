use Rattle.wire_edit.proofs.Answering.{answers_apply}
use Rattle.wire_edit.proofs.laws.answers_apply.Goals as goal

pub returns : goal.returns
returns c = answers_apply
