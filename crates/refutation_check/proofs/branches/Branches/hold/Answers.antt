use Rattle.std.proofs.Common.{refl}
use Rattle.refutation_check.proofs.Branchings.{held_moves}
use Rattle.refutation_check.proofs.branches.Branches.hold.Goals as goal

pub returns-clause-moves : goal.returns-clause-moves
returns-clause-moves c = held_moves _ _ c.args.node.0 c.args.fact c.requires.climbs c.requires.«open» refl refl c.in_ok-hold.ensures.more c.in_ok-hold.ensures.held
