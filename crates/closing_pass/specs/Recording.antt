-- The records of verdicts.
use Rattle.std.specs.Prelude.{◌≡◌, ◌≢◌, ◌++◌, ◌∷◌, [], ℕ, List, Some, slice_get}
use Rattle.std.specs.List.{AllByRecursion}
use Rattle.gate_net.specs.Net.{IsWellFormed, Net, source_count}
use Rattle.gate_net.specs.Faults.{faults_of}
use Rattle.journal_text.specs.declared.record.Record.{Record}
use Rattle.journal_text.specs.declared.record.Record.TheVariants as kept
use Rattle.podem.specs.declared.verdict.Verdict.{Verdict}
use Rattle.podem.specs.declared.verdict.Verdict.TheVariants.{Detected, Refuted, Spent}
use Rattle.rm_base.specs.declared.numbers.Fault.{Fault}
use Rattle.wire_edit.specs.Order.{IsTidy}
use Rattle.closing_pass.specs.Reports.{AreClosed}

-- a vector has a value, and the tree of a spent search an item
abbrev pub IsRecordable : Fault × Verdict → Type 0
IsRecordable (fault, Detected vector) = vector ≢ []
IsRecordable (fault, Refuted tree) = ⊥
IsRecordable (fault, Spent tree) = tree ≢ []

abbrev pub AreRecordable : List (Fault × Verdict) → Type 0
AreRecordable verdicts = AllByRecursion IsRecordable verdicts

-- the vector of a fault is a hit
abbrev pub verdict_record : Fault × Verdict → List Record
verdict_record (fault, Detected vector) = kept.Hit fault vector ∷ []
verdict_record (fault, Refuted tree) = []
verdict_record (fault, Spent tree) = kept.Spent fault tree ∷ []

-- one record a verdict, in order
abbrev pub verdict_records : List (Fault × Verdict) → List Record
verdict_records [] = []
verdict_records (entry ∷ verdicts) = verdict_record entry ++ verdict_records verdicts

-- what closes the faults of a tidy net can be recorded
abbrev pub ClosedAreRecordable : Type 0
ClosedAreRecordable = (net : Net) (budget : ℕ) (verdicts : List (Fault × Verdict)) → IsWellFormed net → IsTidy net → AreClosed net budget verdicts → AreRecordable verdicts

-- a tidy net with a fault has a source
abbrev pub TidyNetsHaveSources : Type 0
TidyNetsHaveSources = (net : Net) (j : ℕ) (fault : Fault) → IsWellFormed net → IsTidy net → slice_get (faults_of net) j ≡ Some fault → source_count net ≢ 0
