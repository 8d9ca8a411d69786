use Rattle.std.proofs.Common.{◌≡◌, length}
use Rattle.journal_check.proofs.batches.add_lane.Given as goal

abbrev pub invariant-loop-at : goal.invariant-loop-at
invariant-loop-at l = length l.words.items ≡ length l.initial.words.items
