use Rattle.journal_reading.specs.Streams.{GivesAll, measure}
use Rattle.journal_reading.proofs.gathering.gather.Given as goal

abbrev pub invariant-loop-entry : goal.invariant-loop-entry
invariant-loop-entry l = GivesAll l.initial.reader l.entries.items l.reader

abbrev pub decreases-loop-entry : goal.decreases-loop-entry
decreases-loop-entry l = measure l.reader
