use Rattle.closing_pass.proofs.Packing.{AreWordsOf}
use Rattle.closing_pass.proofs.words.words_of.Given as goal

abbrev pub invariant-loop-source : goal.invariant-loop-source
invariant-loop-source l = AreWordsOf l.vectors l.source l.words.items
