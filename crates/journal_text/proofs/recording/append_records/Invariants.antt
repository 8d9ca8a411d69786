use Rattle.std.proofs.Common.{◌≤◌, take}
use Rattle.journal_text.specs.Appends.{IsThere}
use Rattle.journal_text.specs.Runs.{HasAppended, records_text}
use Rattle.journal_text.proofs.recording.append_records.Given as goal

abbrev pub invariant-loop-record : goal.invariant-loop-record
invariant-loop-record g l =
    HasAppended (g.S.Shelf.files l.initial.shelf) (g.S.Shelf.files l.shelf) l.journal (records_text (take l.record-index l.records))
    × IsThere (g.S.Shelf.files l.shelf) l.journal
    × (g.S.Shelf.faults l.initial.shelf ≤ g.S.Shelf.faults l.shelf)
