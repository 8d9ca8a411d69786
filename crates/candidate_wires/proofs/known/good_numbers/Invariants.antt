use Rattle.candidate_wires.proofs.InOrder.{AreGoodsIn}
use Rattle.candidate_wires.proofs.known.good_numbers.Given as goal

abbrev pub invariant-loop-entry : goal.invariant-loop-entry
invariant-loop-entry l = record { goods : AreGoodsIn l.added l.entry-index l.numbers.items }
