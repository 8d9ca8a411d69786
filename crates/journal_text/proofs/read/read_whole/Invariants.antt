use Rattle.std.proofs.Common.{length}
use Rattle.journal_text.specs.Streams.{IsReadTo}
use Rattle.journal_text.proofs.read.read_whole.Given as goal

abbrev pub invariant-loop-records : goal.invariant-loop-records
invariant-loop-records l = IsReadTo l.text l.budget l.records.items l.reader

abbrev pub decreases-loop-records : goal.decreases-loop-records
decreases-loop-records l = length l.reader.held
