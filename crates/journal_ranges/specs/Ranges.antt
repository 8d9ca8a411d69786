-- The numbers of records that a program holds are machine words, and such records are entries of a journal.
use Rattle.std.specs.Prelude.{List, [], ℕ, ◌∷◌, ◌≤◌}
use Rattle.journal_text.specs.declared.record.Entry.TheVariants as entry
use Rattle.journal_text.specs.declared.record.Record.{Record}
use Rattle.journal_text.specs.Runs.{AreWritable}
use Rattle.journal_text.specs.Text.{AreEntries, Fits, journal_entries}

-- each number of each record is one of the program
abbrev pub AreFit : List Record → Type 0
AreFit [] = Unit {0}
AreFit (r ∷ records) = Fits (entry.Record r) × AreFit records

-- with a budget in range, records that fit and have lines are those of a journal
abbrev pub FittingAreEntries : Type 0
FittingAreEntries =
    (budget : ℕ) (records : List Record) → 1 ≤ budget → budget ≤ 1048576 → AreWritable records → AreFit records → AreEntries (journal_entries budget records)
