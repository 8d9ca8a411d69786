use Rattle.std.proofs.Common.{List, ◌++◌, take}
use Rattle.rm_base.specs.Words.{Word}
use Rattle.blif_reader.specs.Lines.{words_at}
use Rattle.blif_flatten.specs.Inner.Interfaces.{AreFormals}
use Rattle.blif_flatten.proofs.interfaces.include_words.Given as goal

abbrev pub invariant-loop-word : goal.invariant-loop-word
invariant-loop-word l = (had : List Word) → AreFormals l.initial.formals had → AreFormals l.formals (had ++ words_at l.text (take l.word-index l.words))
