use Rattle.journal_reading.specs.Streams.{IsReadTo, measure}
use Rattle.journal_reading.proofs.read.read_whole.Given as goal

abbrev pub invariant-loop-records : goal.invariant-loop-records
invariant-loop-records l = IsReadTo l.text l.budget l.records.items l.reader

abbrev pub decreases-loop-records : goal.decreases-loop-records
decreases-loop-records l = measure l.reader
