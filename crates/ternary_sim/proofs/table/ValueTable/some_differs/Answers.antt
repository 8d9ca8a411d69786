use Rattle.std.proofs.Common.{arith, refl, ◌<◌}
use Rattle.ternary_sim.proofs.Counts.{found, some_counted}
use Rattle.ternary_sim.proofs.table.ValueTable.some_differs.Goals as goal
use Rattle.ternary_sim.specs.Inner.ValueTables.{SomeDiffers, is_different, watched_count}

pub returns-then-self-eq0 : goal.returns-then-self-eq0
returns-then-self-eq0 c = (
  λ e. cc,
  λ d.
      let d' : SomeDiffers (record { marks = c.self.inside.marks.items; watched = c.self.inside.watched.items }) = rw (← c.self.view_is) at d in
      let some : 0 < watched_count is_different c.self.inside.watched.items c.self.inside.marks.items = some_counted is_different refl c.self.inside.watched.items c.self.inside.marks.items d'.0 d'.1.0 d'.1.1 in
      absurd (omega (arith, some, c.self.invariant.0, c.if-self-eq0.true)),
)

pub returns : goal.returns
returns c =
    let some : 0 < watched_count is_different c.self.inside.watched.items c.self.inside.marks.items = omega (arith, c.self.invariant.0, c.if-self-eq0.false) in
    (λ e. rw (← c.self.view_is) (found is_different c.self.inside.watched.items c.self.inside.marks.items some), λ d. refl)
