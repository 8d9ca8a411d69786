use Rattle.std.proofs.Common.{length, ◌≤◌}
use Rattle.implications.proofs.extending.take_off.Given as goal
use Rattle.implications.specs.Trail.{TakesBack}

abbrev pub invariant-loop-trail : goal.invariant-loop-trail
invariant-loop-trail l = record { long : l.mark ≤ length l.trail.items; back : TakesBack l.initial.trail.items l.initial.facts l.trail.items l.facts }

abbrev pub decreases-loop-trail : goal.decreases-loop-trail
decreases-loop-trail l = length l.trail.items
