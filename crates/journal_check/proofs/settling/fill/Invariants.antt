use Rattle.std.proofs.Common.{◌≡◌, ◌<◌, ℕ, false, length}
use Rattle.std.specs.Prelude.{slice_index, slice_index_or}
use Rattle.journal_check.specs.Inner.Vectors.{bit_word}
use Rattle.journal_check.proofs.settling.fill.Given as goal

abbrev pub invariant-loop-at : goal.invariant-loop-at
invariant-loop-at l =
    (length l.words.items ≡ length l.vector) × ((k : ℕ) → k < l.at → slice_index l.words.items k ≡ bit_word (slice_index_or l.vector k false))
