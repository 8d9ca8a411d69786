use Rattle.std.proofs.Common.{◌≡◌, take}
use Rattle.journal_text.specs.Runs.{made_by, steps_of}
use Rattle.journal_text.proofs.recording.count_records.Given as goal

abbrev pub invariant-loop-record : goal.invariant-loop-record
invariant-loop-record l = l.made ≡ made_by l.initial.made (steps_of (take l.record-index l.records))
