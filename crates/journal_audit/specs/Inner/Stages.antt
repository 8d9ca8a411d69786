-- How far a journal is judged.
use Rattle.std.specs.Prelude.{◌≡◌, ◌≢◌, ◌⊎◌, ℕ, ◌+◌, ◌≤◌, ◌^◌, List, [], ◌++◌, length, Option, Some, None, Result, Ok, Err, IfOk, IfErr}
use Rattle.rm_model.specs.declared.parts.Model.{Model}
use Rattle.gate_graph.specs.Circuit.{net_of}
use Rattle.cover_decompose.specs.Decomposition.{net_of_model}
use Rattle.journal_text.specs.declared.record.Record.{Record}
use Rattle.journal_text.specs.declared.reader.Awaited.{Awaited}
use Rattle.journal_text.specs.declared.reader.Awaited.TheVariants as awaited
use Rattle.journal_text.specs.declared.record.Entry.{Entry}
use Rattle.journal_text.specs.declared.record.Entry.TheVariants as entry
use Rattle.journal_text.specs.Streams.{awaited_after, budget_with, records_of}
use Rattle.journal_reading.specs.declared.faults.JournalFault.{JournalFault}
use Rattle.journal_reading.specs.Streams.{Gathers, GivesAll, GivesNone, IsReadTo, Pending, awaited_of}
use Rattle.journal_audit.specs.Inner.Judging.{IsTextProblem}
use Rattle.journal_check.specs.Accepts.{IsAccepted}
use Rattle.journal_check.specs.Replaying.{EndLeads, LeadOn, Leads, Position, editing, refused}
use Rattle.journal_check.specs.declared.refusal.JournalRefusal.{JournalRefusal}
use Rattle.journal_check.specs.declared.refusal.Why.TheVariants as why
use Rattle.journal_check.specs.Standing.{Standing}
use Rattle.journal_audit.specs.Inner.Tallies.{IsTally}
use Rattle.journal_audit.specs.declared.problem.AuditProblem.{AuditProblem}
use Rattle.journal_audit.specs.declared.problem.AuditProblem.TheVariants.{NoMemory, Refused, Text}
use Rattle.journal_audit.specs.declared.stage.Stage.{Stage}
use Rattle.journal_audit.specs.declared.stage.Stage.TheVariants.{Header, Records, Ended}

-- these records were replayed, and none was refused
pub record IsReplayed (m : Model) (budget : ℕ) (records : List Record) (s : Standing) : Type 0 where
  pub budget_is : s.budget ≡ budget
  pub number : s.number ≡ 1 + length records
  pub unrefused : s.refusal ≡ None
  pub leads : LeadOn budget (editing (net_of_model m)) records s.position

-- the stage is that of these entries
abbrev pub StageIs : Model → ℕ → List Record → Awaited → Stage → Type 0
StageIs m budget records awaited.Header Header = records ≡ []
StageIs m budget records awaited.Record (Records replay tally) = IsReplayed m budget records replay × IsTally records tally
StageIs m budget records awaited.Nothing (Ended graph tally) = IsAccepted m budget records (net_of graph) × IsTally records tally
StageIs m budget records _ _ = ⊥

-- the text so far is read and judged
pub record IsJudged (m : Model) (text : List ℕ) (p : Pending) (stage : Stage) : Type 0 where
  pub budget : ℕ
  pub records : List Record
  pub short : length text ≤ 2 ^ 62
  pub read : IsReadTo text budget records p
  pub is : StageIs m budget records (awaited_of p) stage

-- a record is refused where the records before it lead
pub record StepRefused (m : Model) (budget : ℕ) (records : List Record) (given : Record) (refusal : JournalRefusal) : Type 0 where
  pub plain : refusal.why ≢ why.NoMemory
  pub position : Position
  pub leads : LeadOn budget (editing (net_of_model m)) records position
  pub refuses : Leads budget position given (refused refusal.why)
  pub number : refusal.number ≡ 1 + length records

-- and so is the end
pub record EndRefused (m : Model) (budget : ℕ) (records : List Record) (refusal : JournalRefusal) : Type 0 where
  pub plain : refusal.why ≢ why.NoMemory
  pub position : Position
  pub leads : LeadOn budget (editing (net_of_model m)) records position
  pub refuses : EndLeads position (refused refusal.why)
  pub number : refusal.number ≡ 1 + length records

abbrev pub EntryRefused : Model → ℕ → List Record → Entry → JournalRefusal → Type 0
EntryRefused m budget records (entry.Header given) refusal = ⊥
EntryRefused m budget records (entry.Record given) refusal = StepRefused m budget records given refusal
EntryRefused m budget records entry.End refusal = EndRefused m budget records refusal

-- want of memory, or this refusal
abbrev pub IsRefusal : AuditProblem → (JournalRefusal → Type 0) → Type 0
IsRefusal problem P = (problem ≡ NoMemory) ⊎ ((r : JournalRefusal) × ((problem ≡ Refused r) × P r))

-- what one more entry leads to
abbrev pub TakenSays : Model → ℕ → List Record → Entry → Result Stage AuditProblem → Type 0
TakenSays m budget records e (Ok after) = StageIs m (budget_with budget e) (records ++ records_of e) (awaited_after e) after
TakenSays m budget records e (Err problem) = IsRefusal problem (λ r. EntryRefused m budget records e r)

-- some text is judged so far, and these entries come next
abbrev pub JudgedSome : Model → Stage → List Entry → Type 0
JudgedSome m stage entries = (text : List ℕ) × ((old : Pending) × ((new : Pending) × (IsJudged m text old stage × GivesAll old entries new)))

-- what these entries lead to, of whatever text they come
abbrev pub JudgedOn : Model → Stage → List Entry → Result Stage AuditProblem → Type 0
JudgedOn m stage entries answer =
    (text : List ℕ) (old new : Pending) → IsJudged m text old stage → GivesAll old entries new
    → IfOk answer (λ after. IsJudged m text new after) × ((more : List ℕ) → IfErr answer (λ problem. IsTextProblem m (text ++ more) problem))

-- the stage, or the fault
abbrev pub unless_fault : Stage → Option JournalFault → Result Stage AuditProblem
unless_fault stage None = Ok stage
unless_fault stage (Some f) = Err (Text f)

-- what the entries of a reader lead to, and the fault behind them if there is one
abbrev pub GatheredOn : Model → Stage → List Entry → Option JournalFault → Result Stage AuditProblem → Type 0
GatheredOn m stage entries found answer =
    (text : List ℕ) (old new : Pending) → IsJudged m text old stage → Gathers old entries found new
    → IfOk answer (λ after. IsJudged m text new after × GivesNone new) × ((more : List ℕ) → IfErr answer (λ problem. IsTextProblem m (text ++ more) problem))
