use Rattle.std.proofs.Common.{drop, ◌≡◌}
use Rattle.local_evaluation.proofs.pin_walk.pass.Given as goal

abbrev pub invariant-loop-left : goal.invariant-loop-left
invariant-loop-left l = drop l.left l.rest ≡ drop l.fn.count l.fn.rest
