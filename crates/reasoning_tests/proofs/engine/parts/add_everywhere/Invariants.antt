use Rattle.std.proofs.Common.{length, ◌≡◌}
use Rattle.reasoning_tests.proofs.engine.parts.add_everywhere.Given as goal

abbrev pub invariant-loop-number : goal.invariant-loop-number
invariant-loop-number l = (length l.facts ≡ length l.initial.facts) × (l.marks ≡ l.initial.marks)
