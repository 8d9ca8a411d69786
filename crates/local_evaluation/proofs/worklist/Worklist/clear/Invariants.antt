use Rattle.std.proofs.Common.{length, ◌≡◌}
use Rattle.local_evaluation.proofs.worklist.Worklist.clear.Given as goal
use Rattle.local_evaluation.specs.Worklists.{seen_count}

abbrev pub invariant-loop : goal.invariant-loop
invariant-loop l = length l.self ≡ length l.initial.self

abbrev pub decreases-loop : goal.decreases-loop
decreases-loop l = seen_count l.self
