use Rattle.blif_flatten.proofs.Heights.{AreLeadingBy}
use Rattle.blif_flatten.proofs.rounds.leading_to.Given as goal

abbrev pub invariant-loop : goal.invariant-loop
invariant-loop l = AreLeadingBy l.modules l.to l.counter l.leading.items
