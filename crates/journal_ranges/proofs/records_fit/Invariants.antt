use Rattle.std.proofs.Common.{take}
use Rattle.journal_ranges.specs.Ranges.{AreFit}
use Rattle.journal_ranges.proofs.records_fit.Given as goal

abbrev pub invariant-loop-record : goal.invariant-loop-record
invariant-loop-record l = AreFit (take l.record-index l.records)
