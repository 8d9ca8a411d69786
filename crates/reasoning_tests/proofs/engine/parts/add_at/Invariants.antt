use Rattle.std.proofs.Common.{length, ◌≡◌}
use Rattle.reasoning_tests.proofs.engine.parts.add_at.Given as goal

abbrev pub invariant-loop-line : goal.invariant-loop-line
invariant-loop-line l = (length l.facts ≡ length l.initial.facts) × (l.marks ≡ l.initial.marks)
