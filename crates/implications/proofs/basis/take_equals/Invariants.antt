use Rattle.implications.proofs.basis.take_equals.Given as goal
use Rattle.implications.specs.Bases.{TakesEquals}
use Rattle.rm_base.specs.Members.{AmongFirst}

abbrev pub invariant-loop-number : goal.invariant-loop-number
invariant-loop-number l = TakesEquals (AmongFirst l.numbers l.number-index) l.initial.facts l.initial.taken l.facts l.taken
