use Rattle.test_patterns.specs.Inner.Groups.{AreMarked}
use Rattle.test_patterns.proofs.marking.mark.Given as goal

abbrev pub invariant-loop-place : goal.invariant-loop-place
invariant-loop-place l = AreMarked l.caught l.place l.lane l.pattern l.initial.firsts.items l.firsts.items l.any
