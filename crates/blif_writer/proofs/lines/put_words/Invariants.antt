use Rattle.std.proofs.Common.{◌≡◌, ◌++◌, take}
use Rattle.blif_writer.specs.Inner.Written.{behind_blanks}
use Rattle.blif_writer.proofs.lines.put_words.Given as goal

abbrev pub invariant-loop-word : goal.invariant-loop-word
invariant-loop-word l = l.out.items ≡ l.initial.out.items ++ behind_blanks (take l.word-index l.words)
