-- The steps of a journal that are accepted, from the first on, and what ends them.
use Rattle.std.specs.Prelude.{◌≡◌, ◌⊎◌, ◌+◌, ◌<◌, ◌^◌, ℕ, List, [], ◌∷◌, ◌++◌, length, Option, Some, None}
use Rattle.rm_base.specs.Files.{Files, file_of}
use Rattle.rm_base.specs.Words.{Word}
use Rattle.file_pieces.specs.declared.PieceProblem.{PieceProblem}
use Rattle.file_pieces.specs.declared.PieceProblem.TheVariants.{Failed, Missing, NoMemory, TooLong}
use Rattle.rm_model.specs.declared.parts.Model.{Model}
use Rattle.gate_net.specs.Net.{Net}
use Rattle.wire_edit.specs.declared.steps.Step.{Step}
use Rattle.cover_decompose.specs.Decomposition.{net_of_model}
use Rattle.journal_text.specs.Runs.{AcceptedTo, steps_of}
use Rattle.journal_text.specs.declared.record.Record.{Record}
use Rattle.journal_text.specs.declared.record.Record.TheVariants as kept
use Rattle.journal_reading.specs.Faults.{BeginsOpen, BeginsWhole, header_number, record_number}
use Rattle.journal_reading.specs.declared.faults.JournalFault.{JournalFault}
use Rattle.journal_reading.specs.declared.faults.JournalFault.TheVariants as fault
use Rattle.journal_check.specs.Replaying.{LeadOn, editing}
use Rattle.journal_audit.specs.Judging.{IsFaultyText, IsRefusedText}
use Rattle.accepted_steps.specs.declared.stop.Stop.{Stop}
use Rattle.accepted_steps.specs.declared.stop.Stop.TheVariants.{Refused, Text}

-- records of accepted steps, and the net to which they lead
pub record AreLed (m : Model) (budget : ℕ) (records : List Record) (steps : List Step) : Type 0 where
  pub last : Net
  pub accepted : AcceptedTo (net_of_model m) records last
  pub leads : LeadOn budget (editing (net_of_model m)) records (editing last)
  pub are : steps_of records ≡ steps

abbrev pub IsVerdict : Record → Type 0
IsVerdict (kept.Step s tree) = ⊥
IsVerdict (kept.Hit f vector) = Unit {0}
IsVerdict (kept.Spent f tree) = Unit {0}

-- the fault stands behind so many records, or at the header
abbrev pub StandsBehind : JournalFault → ℕ → Type 0
StandsBehind (fault.BadHeader v n) count = count ≡ 0
StandsBehind (fault.BadRecord v n) count = n ≡ record_number v count
StandsBehind (fault.Truncated v n) count = ((n ≡ header_number v) × (count ≡ 0)) ⊎ (n ≡ record_number v count)
StandsBehind (fault.AfterEnd v n) count = ⊥
StandsBehind fault.NoMemory count = ⊥

-- what ends the steps: a verdict or the end of the journal; or that which `check` finds behind so many records
abbrev pub EndsBy : Model → List ℕ → ℕ → List Record → Option Stop → Type 0
EndsBy m text budget records None = ((verdict : Record) × (IsVerdict verdict × BeginsOpen text budget (records ++ verdict ∷ []))) ⊎ BeginsWhole text budget records
EndsBy m text budget records (Some (Text f)) = IsFaultyText m text f × StandsBehind f (length records)
EndsBy m text budget records (Some (Refused r)) = IsRefusedText m text r × (r.number ≡ 1 + length records)

-- these are the accepted steps of the text, from the first on
pub record AreTaken (m : Model) (text : List ℕ) (steps : List Step) (stop : Option Stop) : Type 0 where
  pub budget : ℕ
  pub records : List Record
  pub led : AreLed m budget records steps
  pub ends : EndsBy m text budget records stop

-- the journal is there, and these are its accepted steps
abbrev pub TakenFrom : Model → Word → List Step → Option Stop → Files → Type 0
TakenFrom m journal steps stop told = (text : List ℕ) × ((file_of told journal ≡ Some text) × AreTaken m text steps stop)

-- why no steps were taken of a file
abbrev pub NotTaken : Word → Files → PieceProblem → Type 0
NotTaken journal told Failed = Unit {0}
NotTaken journal told Missing = file_of told journal ≡ None
NotTaken journal told TooLong = (text : List ℕ) × ((file_of told journal ≡ Some text) × (2 ^ 62 < length text))
NotTaken journal told NoMemory = Unit {0}
