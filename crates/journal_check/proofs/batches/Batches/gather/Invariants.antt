use Rattle.std.proofs.Common.{◌≡◌, length}
use Rattle.journal_check.proofs.batches.Batches.gather.Given as goal

abbrev pub invariant-loop-other : goal.invariant-loop-other
invariant-loop-other l = (l.self.kept ≡ l.initial.self.kept) × (length l.words.items ≡ length l.initial.words.items)
