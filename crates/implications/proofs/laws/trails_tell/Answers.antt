use Rattle.implications.proofs.Trails.{trail_tells}
use Rattle.implications.proofs.laws.trails_tell.Goals as goal

pub returns : goal.returns
returns c = trail_tells
