use Rattle.journal_text.specs.Appends.{IsThere}
use Rattle.journal_ranges.specs.Ranges.{AreFit}
use Rattle.journal_text.specs.Runs.{HasAppended, records_text}
use Rattle.std.proofs.Common.{◌≤◌, take}
use Rattle.closing_pass.specs.Recording.{verdict_records}
use Rattle.closing_pass.proofs.recording.write_verdicts.Given as goal

abbrev pub invariant-loop-entry : goal.invariant-loop-entry
invariant-loop-entry g l = record {
  written : HasAppended (g.S.Shelf.files l.initial.shelf) (g.S.Shelf.files l.shelf) l.journal (records_text (verdict_records (take l.entry-index l.report.verdicts.items)));
  fit : AreFit (verdict_records (take l.entry-index l.report.verdicts.items));
  there : IsThere (g.S.Shelf.files l.shelf) l.journal;
  later : g.S.Shelf.faults l.initial.shelf ≤ g.S.Shelf.faults l.shelf;
}
