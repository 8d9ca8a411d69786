use Rattle.std.proofs.Common.{◌≤◌}
use Rattle.pin_pool.specs.Pins.{admitted}
use Rattle.net_tests.proofs.pools.make_all.Given as goal

abbrev pub invariant-loop-at : goal.invariant-loop-at
invariant-loop-at l = 5 ≤ admitted l.pool
