use Rattle.std.proofs.Common.{ℕ, List, length}
use Rattle.journal_text.specs.Streams.{IsReadTo}
use Rattle.journal_convert.proofs.converting.keep_lines.Given as goal

abbrev pub invariant-loop-entry : goal.invariant-loop-entry
invariant-loop-entry l = (text : List ℕ) → IsReadTo text l.initial.kept.budget l.initial.kept.records.items l.initial.reader → IsReadTo text l.kept.budget l.kept.records.items l.reader

abbrev pub decreases-loop-entry : goal.decreases-loop-entry
decreases-loop-entry l = length l.reader.held
