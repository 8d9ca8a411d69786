use Rattle.std.proofs.Common.{map, take, ◌≡◌}
use Rattle.proof_check.specs.Inner.Vectors.{bit_word}
use Rattle.proof_check.proofs.vectors.words_of.Given as goal

abbrev pub invariant-loop-value : goal.invariant-loop-value
invariant-loop-value l = l.words.items ≡ map bit_word (take l.value-index l.values)
