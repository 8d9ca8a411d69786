use Rattle.std.proofs.Common.{refl}
use Rattle.refutation_check.proofs.Branchings.{climb_popped, end_moves, may_end}
use Rattle.refutation_check.proofs.branches.Branches.end.Goals as goal

pub undo_to-requires : goal.undo_to-requires
undo_to-requires c = (climb_popped c.args.self.now _ c.in-Some.next c.in-Some.ensures.items c.requires.climbs).mark

pub hold-requires : goal.hold-requires
hold-requires c = rw c.undo_to.ensures ((climb_popped c.args.self.now _ c.in-Some.next c.in-Some.ensures.items c.requires.climbs).within)

pub returns-clause-ok : goal.returns-clause-ok
returns-clause-ok c = (
  may_end c.args.form _ _ _ c.in-Some.next c.in-Some.ensures.items,
  end_moves _ _ _ c.in-Some.next _ c.requires.climbs c.requires.«open» refl c.in-Some.ensures.items refl c.undo_to.ensures c.in_ok-hold.ensures.more c.in_ok-hold.ensures.held,
)
