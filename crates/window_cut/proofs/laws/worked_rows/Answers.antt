use Rattle.std.proofs.Common.{refl}
use Rattle.std.specs.Fmt.{digits}
use Rattle.window_cut.proofs.laws.worked_rows.Goals as goal

pub returns-clause-order : goal.returns-clause-order
returns-clause-order c = refl

pub returns-clause-models : goal.returns-clause-models
unfolding digits
returns-clause-models c = refl

pub returns-clause-shifted : goal.returns-clause-shifted
returns-clause-shifted c = refl
