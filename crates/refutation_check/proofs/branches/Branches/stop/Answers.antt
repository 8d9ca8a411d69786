use Rattle.std.proofs.Common.{refl}
use Rattle.refutation_check.proofs.Branchings.{stop_moves}
use Rattle.refutation_check.proofs.branches.Branches.stop.Goals as goal

pub returns-in-Partial-clause-ok : goal.returns-in-Partial-clause-ok
returns-in-Partial-clause-ok c = rw c.in-Partial.is (refl, stop_moves _ _ c.requires.climbs refl refl refl)
