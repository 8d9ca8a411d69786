use Rattle.std.proofs.Common.{refl}
use Rattle.refutation_check.proofs.Branchings.{split_moves}
use Rattle.refutation_check.proofs.branches.Branches.split.Goals as goal

pub returns-clause-moves : goal.returns-clause-moves
returns-clause-moves c =
    split_moves _ _ c.args.node c.args.first _ c.mark-mark.ensures c.requires.climbs c.requires.«open» refl c.requires.node c.in_ok-push.ensures.items c.in_ok-hold.ensures.more c.in_ok-hold.ensures.held
