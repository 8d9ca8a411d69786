use Rattle.std.proofs.Common.{refl, ◌+◌}
use Rattle.fault_sim.proofs.Noting.{above_stamps, forgotten, none_is_right, not_one}
use Rattle.fault_sim.proofs.observabilities.Observabilities.forget.Goals as goal

pub returns-then-self-clause-none : goal.returns-then-self-clause-none
returns-then-self-clause-none c = rw (← c.self.view_is) (forgotten c.self.inside.stamp 1 c.self.inside.notes.items c.clear.new.notes.items c.clear.ensures.room (not_one c.clear.new.notes.items c.clear.ensures.cleared))

pub returns-then-self-clause-right : goal.returns-then-self-clause-right
returns-then-self-clause-right c = none_is_right _ _ (forgotten c.self.inside.stamp 1 c.self.inside.notes.items c.clear.new.notes.items c.clear.ensures.room (not_one c.clear.new.notes.items c.clear.ensures.cleared))

pub returns-else-self-clause-none : goal.returns-else-self-clause-none
returns-else-self-clause-none c = rw (← c.self.view_is) (forgotten c.self.inside.stamp (c.self.inside.stamp + 1) c.self.inside.notes.items c.self.inside.notes.items refl (above_stamps c.self.inside.stamp c.self.inside.notes.items c.self.invariant.1))

pub returns-else-self-clause-right : goal.returns-else-self-clause-right
returns-else-self-clause-right c = none_is_right _ _ (forgotten c.self.inside.stamp (c.self.inside.stamp + 1) c.self.inside.notes.items c.self.inside.notes.items refl (above_stamps c.self.inside.stamp c.self.inside.notes.items c.self.invariant.1))
