-- Runs of records: accepted steps one after another, how many there are of each kind, their text, and what recording them does to
-- the files.
use Rattle.std.specs.Prelude.{◌≡◌, ℕ, suc, List, [], ◌∷◌, ◌++◌, take, Option}
use Rattle.std.specs.Option.{option_map}
use Rattle.rm_base.specs.Files.{Files, append_file}
use Rattle.rm_base.specs.declared.settings.Made.{Made}
use Rattle.gate_net.specs.Net.{Net, IsWellFormed}
use Rattle.wire_edit.specs.Steps.{stepped}
use Rattle.wire_edit.specs.declared.steps.Step.{Step}
use Rattle.wire_edit.specs.declared.steps.Step.TheVariants.{Add, Fix}
use Rattle.journal_text.specs.declared.record.Record.{Record}
use Rattle.journal_text.specs.declared.record.Record.TheVariants as kept
use Rattle.journal_text.specs.declared.record.Entry.TheVariants as entry
use Rattle.journal_text.specs.Accepted.{IsAcceptedStep, Keeps}
use Rattle.journal_text.specs.Text.{IsWritableRecord, entry_text}
use Rattle.wire_edit.specs.Removals.{IsRemoval}

-- the records are accepted steps, one after another, and lead from the one net to the other
abbrev pub AcceptedTo : Net → List Record → Net → Type 0
AcceptedTo net [] after = after ≡ net
AcceptedTo net (kept.Step step tree ∷ records) after = IsAcceptedStep net step tree × AcceptedTo (stepped net step) records after
AcceptedTo net (kept.Hit fault vector ∷ records) after = ⊥
AcceptedTo net (kept.Spent fault tree ∷ records) after = ⊥

-- the steps of the records
abbrev pub steps_of : List Record → List Step
steps_of [] = []
steps_of (kept.Step step tree ∷ records) = step ∷ steps_of records
steps_of (kept.Hit fault vector ∷ records) = steps_of records
steps_of (kept.Spent fault tree ∷ records) = steps_of records

abbrev pub AreRemovals : List Step → Type 0
AreRemovals [] = Unit {0}
AreRemovals (s ∷ steps) = IsRemoval s × AreRemovals steps

-- how many steps there are of each kind
abbrev pub none_made : Made
none_made = record { adds = 0; fixes = 0; local = 0 }

abbrev pub counted : Made → Step → Made
counted m (Add gate node) = record m { adds = suc m.adds }
counted m (Fix gate position value) = record m { fixes = suc m.fixes }
counted m _ = record m { local = suc m.local }

-- with these steps made too
abbrev pub made_by : Made → List Step → Made
made_by m [] = m
made_by m (s ∷ steps) = made_by (counted m s) steps

-- the lines of the records, in order
abbrev pub records_text : List Record → List ℕ
records_text [] = []
records_text (r ∷ records) = entry_text (entry.Record r) ++ records_text records

-- each record has a line
abbrev pub AreWritable : List Record → Type 0
AreWritable [] = Unit {0}
AreWritable (r ∷ records) = IsWritableRecord r × AreWritable records

-- the text was appended to the file, and nothing else changed
abbrev pub HasAppended : Option Files → Option Files → List ℕ → List ℕ → Type 0
HasAppended old new name text = new ≡ option_map (append_file name text) old

-- a beginning of the text was appended
abbrev pub HasAppendedPart : Option Files → Option Files → List ℕ → List ℕ → Type 0
HasAppendedPart old new name text = (k : ℕ) × HasAppended old new name (take k text)

-- a beginning of the text of records was appended, which are accepted one after another from the net
pub record IsStopped (net : Net) (old new : Option Files) (journal : List ℕ) : Type 0 where
  pub records : List Record
  pub after : Net
  pub accepted : AcceptedTo net records after
  pub written : HasAppendedPart old new journal (records_text records)

-- accepted steps, one after another, keep the net well formed, its sources, what stands together at observed places, and every
-- observed value under every assignment
abbrev pub AcceptedRunsKeep : Type 0
AcceptedRunsKeep = (net after : Net) (records : List Record) → IsWellFormed net → AcceptedTo net records after → Keeps net after

-- each of them has a line
abbrev pub AcceptedRunsAreWritable : Type 0
AcceptedRunsAreWritable = (net after : Net) (records : List Record) → AcceptedTo net records after → AreWritable records
