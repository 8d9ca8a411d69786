use Rattle.std.proofs.Common.{refl, sym, ◌∙◌, ◌≡◌}
use Rattle.ternary_sim.proofs.Counts.{all_closed, none_open}
use Rattle.ternary_sim.proofs.table.ValueTable.all_equal.Goals as goal
use Rattle.ternary_sim.specs.Inner.ValueTables.{AllEqual, is_open, watched_count}

pub returns-then-self-eq0 : goal.returns-then-self-eq0
returns-then-self-eq0 c =
    let none : watched_count is_open c.self.inside.watched.items c.self.inside.marks.items ≡ 0 = sym c.self.invariant.1 ∙ c.if-self-eq0.true in
    (λ e. rw (← c.self.view_is) (all_closed c.self.inside.watched.items c.self.inside.marks.items none), λ a. refl)

pub returns : goal.returns
returns c = (
  λ e. cc,
  λ a.
      let a' : AllEqual (record { marks = c.self.inside.marks.items; watched = c.self.inside.watched.items }) = rw (← c.self.view_is) at a in
      let none : watched_count is_open c.self.inside.watched.items c.self.inside.marks.items ≡ 0 = none_open c.self.inside.watched.items c.self.inside.marks.items a' in
      absurd (c.if-self-eq0.false (c.self.invariant.1 ∙ none)),
)
