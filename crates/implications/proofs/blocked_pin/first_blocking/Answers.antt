use Rattle.std.proofs.Common.{Some, length, ◌≡◌}
use Rattle.std.specs.Prelude.{slice_get}
use Rattle.implications.proofs.blocked_pin.first_blocking.Goals as goal
use Rattle.refutation.proofs.Public.{yielded_at}

pub is_blocking-requires : goal.is_blocking-requires
is_blocking-requires c = c.requires.within _ _ (yielded_at (λ d. d.0) c.args.drivers c.loop-driver.yielded c.in-Some.driver _ _ c.loop-driver.invariant.all c.in-Some.ensures.steps)

pub returns-then-is_blocking : goal.returns-then-is_blocking
returns-then-is_blocking c =
    let at : slice_get c.args.drivers (length c.loop-driver.yielded) ≡ Some c.in-Some.driver.0 = yielded_at (λ d. d.0) c.args.drivers c.loop-driver.yielded c.in-Some.driver _ _ c.loop-driver.invariant.all c.in-Some.ensures.steps in
    rw c.loop-driver.invariant.count at
