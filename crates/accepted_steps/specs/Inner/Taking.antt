-- How far the steps of a journal are taken.
use Rattle.std.specs.Prelude.{◌≡◌, ◌≢◌, ◌<◌, ◌≤◌, ◌^◌, ◌+◌, ℕ, true, List, [], ◌∷◌, ◌++◌, length, Option, Some, None, IfOk, IfSome, Result}
use Rattle.rm_base.specs.Files.{Files}
use Rattle.rm_base.specs.Words.{Word}
use Rattle.rm_model.specs.declared.parts.Model.{Model}
use Rattle.wire_edit.specs.declared.steps.Step.{Step}
use Rattle.cover_decompose.specs.Decomposition.{net_of_model}
use Rattle.journal_text.specs.Streams.{awaited_after, budget_with, comes, records_of}
use Rattle.refutation.specs.declared.items.Item.{Item}
use Rattle.journal_text.specs.declared.record.Record.{Record}
use Rattle.journal_text.specs.declared.record.Record.TheVariants as kept
use Rattle.journal_text.specs.declared.record.Entry.{Entry}
use Rattle.journal_text.specs.declared.record.Entry.TheVariants as entry
use Rattle.journal_text.specs.declared.reader.Awaited.{Awaited}
use Rattle.journal_text.specs.declared.reader.Awaited.TheVariants as awaited
use Rattle.file_pieces.specs.Pieces.{IsReadSoFar}
use Rattle.journal_reading.specs.Streams.{GivesAll, GivesNone, IsReadTo, Pending, awaited_of}
use Rattle.journal_check.specs.Replaying.{Leads, editing, refused}
use Rattle.journal_check.specs.Standing.{Standing}
use Rattle.journal_check.specs.declared.refusal.JournalRefusal.{JournalRefusal}
use Rattle.journal_check.specs.declared.refusal.Why.TheVariants as why
use Rattle.step_replay.specs.Rebuilding.{AreAcceptedSteps}
use Rattle.accepted_steps.specs.Taken.{AreLed, EndsBy, IsVerdict, TakenFrom}
use Rattle.accepted_steps.specs.Inner.Stops.{stop_of}
use Rattle.accepted_steps.specs.declared.stop.Stop.{Stop}
use Rattle.accepted_steps.specs.declared.stop.Ended.{Ended}
use Rattle.accepted_steps.specs.declared.stop.Ended.TheVariants.{AtFault, AtRefusal, AtVerdict}
use Rattle.accepted_steps.specs.declared.taking.Taking.{Taking}

-- the replay stands where these records led
pub record Stands (m : Model) (budget : ℕ) (records : List Record) (s : Standing) (steps : List Step) : Type 0 where
  pub led : AreLed m budget records steps
  pub budget_is : s.budget ≡ budget
  pub number : s.number ≡ 1 + length records
  pub unrefused : s.refusal ≡ None
  pub position : s.position ≡ editing led.last

abbrev pub StandsIn : Model → ℕ → List Record → List Step → Option Standing → Type 0
StandsIn m budget records steps None = ⊥
StandsIn m budget records steps (Some s) = Stands m budget records s steps

abbrev pub TakenAt : Model → ℕ → List Record → Awaited → Taking → Type 0
TakenAt m budget records awaited.Header t = (records ≡ []) × ((t.replay ≡ None) × (t.steps.items ≡ []))
TakenAt m budget records awaited.Record t = StandsIn m budget records t.steps.items t.replay
TakenAt m budget records awaited.Nothing t = ⊥

-- the text so far is read, and its steps are taken
pub record IsTaking (m : Model) (text : List ℕ) (p : Pending) (t : Taking) : Type 0 where
  pub budget : ℕ
  pub records : List Record
  pub short : length text ≤ 2 ^ 62
  pub read : IsReadTo text budget records p
  pub is : TakenAt m budget records (awaited_of p) t

-- a record is refused behind these
pub record IsRefusedBehind (m : Model) (budget : ℕ) (records : List Record) (given : Record) (refusal : JournalRefusal) (steps : List Step) : Type 0 where
  pub led : AreLed m budget records steps
  pub plain : refusal.why ≢ why.NoMemory
  pub refuses : Leads budget (editing led.last) given (refused refusal.why)
  pub number : refusal.number ≡ 1 + length records

-- the entry ends the steps
abbrev pub EndsAt : Model → ℕ → List Record → Entry → Ended → List Step → Type 0
EndsAt m budget records (entry.Header b) ended steps = ⊥
EndsAt m budget records (entry.Record r) AtVerdict steps = IsVerdict r × AreLed m budget records steps
EndsAt m budget records (entry.Record r) (AtRefusal refusal) steps = IsRefusedBehind m budget records r refusal steps
EndsAt m budget records (entry.Record r) (AtFault f) steps = ⊥
EndsAt m budget records entry.End AtVerdict steps = AreLed m budget records steps
EndsAt m budget records entry.End (AtRefusal refusal) steps = ⊥
EndsAt m budget records entry.End (AtFault f) steps = ⊥

-- what one more record leads to
abbrev pub RecordSays : Model → ℕ → List Record → Record → Option Standing → List Step → Option Ended → Type 0
RecordSays m budget records r new steps None = StandsIn m budget (records ++ r ∷ []) steps new
RecordSays m budget records r new steps (Some ended) = EndsAt m budget records (entry.Record r) ended steps

-- the record makes that step
abbrev pub StepOf : Record → Step → Type 0
StepOf r s = (tree : List Item) × (r ≡ kept.Step s tree)

-- what one more entry leads to
abbrev pub EntrySays : Model → ℕ → List Record → Entry → Taking → Option Ended → Type 0
EntrySays m budget records e new None = TakenAt m (budget_with budget e) (records ++ records_of e) (awaited_after e) new
EntrySays m budget records e new (Some ended) = EndsAt m budget records e ended new.steps.items

-- the entry may be taken
abbrev pub MayTake : Model → Taking → Entry → Type 0
MayTake m t e = (budget : ℕ) × ((records : List Record) × ((a : Awaited) × (TakenAt m budget records a t × ((comes a e ≡ true) × (length records ≤ 2 ^ 62)))))

-- what it leads to, whatever came before
abbrev pub TakesOne : Model → Taking → Entry → Taking → Option Ended → Type 0
TakesOne m old e new o = (budget : ℕ) (records : List Record) (a : Awaited) → TakenAt m budget records a old → comes a e ≡ true → length records ≤ 2 ^ 62 → EntrySays m budget records e new o

-- the steps of any text that goes on so
abbrev pub EndsSo : Model → List ℕ → List Step → Ended → Type 0
EndsSo m text steps ended = (more : List ℕ) → (budget : ℕ) × ((records : List Record) × (AreLed m budget records steps × EndsBy m (text ++ more) budget records (stop_of ended)))

-- some text is taken so far, and these entries come next
abbrev pub TakingSome : Model → Taking → List Entry → Type 0
TakingSome m t entries = (text : List ℕ) × ((old : Pending) × ((new : Pending) × (IsTaking m text old t × GivesAll old entries new)))

abbrev pub TakesAll : Model → Taking → List Entry → Taking → Option Ended → Type 0
TakesAll m old entries new None = (text : List ℕ) (p q : Pending) → IsTaking m text p old → GivesAll p entries q → IsTaking m text q new
TakesAll m old entries new (Some ended) = (text : List ℕ) (p q : Pending) → IsTaking m text p old → GivesAll p entries q → EndsSo m text new.steps.items ended

-- what one more piece of a text leads to
abbrev pub PieceSays : Model → List ℕ → Pending → Taking → Option Ended → Type 0
PieceSays m text p t None = IsTaking m text p t × GivesNone p
PieceSays m text p t (Some ended) = EndsSo m text t.steps.items ended

-- so many bytes of the journal are read, and its steps are taken
pub record IsTakenSoFar (files : Option Files) (m : Model) (journal : Word) (from : ℕ) (p : Pending) (t : Taking) : Type 0 where
  pub text : List ℕ
  pub so_far : IsReadSoFar files journal text from
  pub taking : IsTaking m text p t
  pub none : GivesNone p

-- what ends the steps at the end of a text
abbrev pub TakesLast : Pending → Option Stop → Type 0
TakesLast p stop = (m : Model) (text : List ℕ) (t : Taking) → IsTaking m text p t → (budget : ℕ) × ((records : List Record) × (AreLed m budget records t.steps.items × EndsBy m text budget records stop))

-- the steps of the journal are taken, and this ends them
pub record IsTakenWith (files : Option Files) (m : Model) (journal : Word) (steps : List Step) (stop : Option Stop) : Type 0 where
  pub accepted : AreAcceptedSteps (net_of_model m) steps
  pub told : IfSome files (TakenFrom m journal steps stop)

-- what one more piece of the journal, or its end, leads to
abbrev pub TurnSays : Option Files → Model → Word → ℕ → ℕ → Pending → Taking → Option (Option Stop) → Type 0
TurnSays files m journal old from p t None = IsTakenSoFar files m journal from p t × (old < from)
TurnSays files m journal old from p t (Some stop) = IsTakenWith files m journal t.steps.items stop
