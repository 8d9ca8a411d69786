use Rattle.std.proofs.Common.{refl}
use Rattle.refutation_check.proofs.Branchings.{pass_moves}
use Rattle.refutation_check.proofs.branches.Branches.pass.Goals as goal

pub returns-in-Some-clause-passed : goal.returns-in-Some-clause-passed
returns-in-Some-clause-passed c e = pass_moves _ _ c.in-Some.field-0 c.requires.climbs c.requires.stopped refl c.in-Some.ensures.items refl
