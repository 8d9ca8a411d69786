-- What stands in the journal behind its header.
use Rattle.std.specs.Prelude.{◌++◌, ◌⊎◌, ℕ, List, Option}
use Rattle.rm_base.specs.Files.{Files}
use Rattle.rm_base.specs.declared.settings.Settings.{Settings}
use Rattle.gate_net.specs.Net.{Net}
use Rattle.gate_graph.specs.Circuit.{net_of}
use Rattle.journal_text.specs.Text.{AreEntries, entry_text, journal_entries}
use Rattle.journal_text.specs.Runs.{HasAppended, HasAppendedPart, IsStopped, records_text}
use Rattle.journal_text.specs.declared.record.Record.{Record}
use Rattle.journal_text.specs.declared.record.Entry.TheVariants.{End}
use Rattle.journal_check.specs.Accepts.{IsAcceptedFrom}
use Rattle.closing_pass.specs.Recording.{verdict_records}
use Rattle.closing_pass.specs.Reports.{AreClosed}
use Rattle.optimisation.specs.Inner.Turned.{AreTurns}
use Rattle.optimisation.specs.declared.rounds.Rounds.{Rounds}

-- all steps, the verdicts and the end
pub record IsFilled (start : Net) (settings : Settings) (rounds : Rounds) (old new : Option Files) (journal : List ℕ) : Type 0 where
  pub records : List Record
  pub run : AreTurns start settings settings.perturb records rounds
  pub valid : AreEntries (journal_entries settings.budget (records ++ verdict_records rounds.report.verdicts.items))
  pub closed : AreClosed (net_of rounds.last.graph) settings.budget rounds.report.verdicts.items
  pub written : HasAppended old new journal (records_text (records ++ verdict_records rounds.report.verdicts.items) ++ entry_text End)

-- a beginning of the text of accepted steps; or of the records of an accepted journal and its end
pub record IsLeftWhole (start : Net) (budget : ℕ) (old new : Option Files) (journal : List ℕ) : Type 0 where
  pub records : List Record
  pub last : Net
  pub accepted : IsAcceptedFrom start budget records last
  pub written : HasAppendedPart old new journal (records_text records ++ entry_text End)

abbrev pub IsLeft : Net → ℕ → Option Files → Option Files → List ℕ → Type 0
IsLeft start budget old new journal = IsStopped start old new journal ⊎ IsLeftWhole start budget old new journal
