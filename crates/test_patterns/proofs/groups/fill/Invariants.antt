use Rattle.std.proofs.Common.{◌≡◌, ◌<◌, ℕ, false, length}
use Rattle.std.specs.Prelude.{slice_index, slice_index_or}
use Rattle.test_patterns.specs.Inner.Groups.{bit_word}
use Rattle.test_patterns.proofs.groups.fill.Given as goal

abbrev pub invariant-loop-at : goal.invariant-loop-at
invariant-loop-at l =
    (length l.words.items ≡ length l.vector) × ((k : ℕ) → k < l.at → slice_index l.words.items k ≡ bit_word (slice_index_or l.vector k false))
