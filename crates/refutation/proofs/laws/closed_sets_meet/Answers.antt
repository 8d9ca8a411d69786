use Rattle.refutation.proofs.Depths.{closed_meet, closed_below}
use Rattle.refutation.proofs.laws.closed_sets_meet.Goals as goal

pub returns-clause-meet : goal.returns-clause-meet
returns-clause-meet c = closed_meet

pub returns-clause-below : goal.returns-clause-below
returns-clause-below c = closed_below
