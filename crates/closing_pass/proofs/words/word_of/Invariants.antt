use Rattle.closing_pass.proofs.Packing.{IsWordOf}
use Rattle.closing_pass.proofs.words.word_of.Given as goal

abbrev pub invariant-loop-place : goal.invariant-loop-place
invariant-loop-place l = IsWordOf l.vectors l.source.0 l.place l.word
