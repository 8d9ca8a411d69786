use Rattle.std.proofs.Common.{◌≡◌, ◌+◌, None}
use Rattle.cover_decompose.specs.Decomposition.{net_of_model}
use Rattle.journal_check.specs.Replaying.{editing}
use Rattle.journal_check.proofs.LoopLaws.{Follows}
use Rattle.journal_check.proofs.whole.replay.Given as goal

abbrev pub invariant-loop-given : goal.invariant-loop-given
invariant-loop-given l =
    (l.replay.refusal ≡ None) × ((l.replay.budget ≡ l.budget) × ((l.replay.number ≡ l.given-index + 1) × Follows l.budget (editing (net_of_model l.model)) l.records l.replay.position l.given-index))
