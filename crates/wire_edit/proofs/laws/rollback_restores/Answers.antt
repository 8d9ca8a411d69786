use Rattle.wire_edit.proofs.Calling.{restored}
use Rattle.wire_edit.proofs.laws.rollback_restores.Goals as goal

pub returns : goal.returns
returns c = restored c.same_wiring.ensures
