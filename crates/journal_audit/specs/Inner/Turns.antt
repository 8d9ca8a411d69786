-- Reading a journal piece by piece.
use Rattle.std.specs.Prelude.{◌≡◌, ◌≢◌, ◌⊎◌, ℕ, ◌<◌, ◌^◌, List, ◌++◌, length, take, Option, Some, None, IfSome}
use Rattle.rm_base.specs.Files.{Files, file_of}
use Rattle.rm_base.specs.Shelves.{GivesPiece}
use Rattle.rm_model.specs.declared.parts.Model.{Model}
use Rattle.gate_net.specs.Net.{Net}
use Rattle.gate_graph.specs.Circuit.{net_of}
use Rattle.journal_reading.specs.Streams.{GivesNone, Pending}
use Rattle.journal_reading.specs.declared.faults.JournalFault.TheVariants as fault
use Rattle.journal_check.specs.declared.refusal.Why.TheVariants as why
use Rattle.journal_audit.specs.Audited.{HasSaid, IsLast, JournalIs}
use Rattle.journal_audit.specs.Judging.{IsOpen}
use Rattle.journal_audit.specs.Inner.Judging.{IsTextProblem}
use Rattle.journal_audit.specs.Inner.Stages.{IsJudged}
use Rattle.journal_audit.specs.Inner.Tallies.{IsAcceptedWith}
use Rattle.journal_audit.specs.declared.problem.AuditProblem.{AuditProblem}
use Rattle.journal_audit.specs.declared.problem.AuditProblem.TheVariants.{Fault, Netlist, NoJournal, NoMemory, NoOutput, Refused, Text, TooLong}
use Rattle.journal_audit.specs.declared.reading.Turn.{Turn}
use Rattle.journal_audit.specs.declared.reading.Turn.TheVariants.{Ends, GoesOn}
use Rattle.journal_audit.specs.declared.stage.Stage.{Stage}
use Rattle.journal_audit.specs.declared.tally.Tally.{Tally}
use Rattle.rm_base.specs.Words.{Word}

-- the file, where it is there, begins with the text
abbrev pub FileBegins : Files → Word → List ℕ → Type 0
FileBegins files journal text = (bytes : List ℕ) → file_of files journal ≡ Some bytes → (rest : List ℕ) × (bytes ≡ text ++ rest)

-- so many bytes of the journal were read and judged, and no whole line is left
pub record IsReadSoFar (files : Option Files) (m : Model) (journal : Word) (from : ℕ) (p : Pending) (stage : Stage) : Type 0 where
  pub text : List ℕ
  pub size : length text ≡ from
  pub begins : IfSome files (λ told. FileBegins told journal text)
  pub judged : IsJudged m text p stage
  pub none : GivesNone p

-- and so it is of some text
abbrev pub IsRead : Model → ℕ → Pending → Stage → Type 0
IsRead m from p stage = (text : List ℕ) × ((length text ≡ from) × (IsJudged m text p stage × GivesNone p))

-- after what was read and judged, the shelf gives this piece of at most so many bytes
pub record GivesNext (files : Option Files) (m : Model) (journal : Word) (from most : ℕ) (p : Pending) (stage : Stage) (piece : List ℕ) : Type 0 where
  pub some : 0 < most
  pub so_far : IsReadSoFar files m journal from p stage
  pub gives : GivesPiece files journal from most (Some piece)

-- the journal is accepted, with that last net and such records
pub record EndsAccepted (files : Option Files) (m : Model) (journal : Word) (last : Net) (t : Tally) : Type 0 where
  pub is_last : IsLast m last t.verdicts
  pub told : IfSome files (λ told. HasSaid m told journal last t.count t.verdicts)

-- what one turn leads to
abbrev pub TurnSays : Option Files → Model → Word → ℕ → Pending → Turn → Type 0
TurnSays files m journal from p (GoesOn stage now) = IsReadSoFar files m journal now p stage × (from < now)
TurnSays files m journal from p (Ends graph tally) = EndsAccepted files m journal (net_of graph) tally

-- what is wrong with the journal, where its shelf tells it
abbrev pub IsJournalProblem : Model → Files → Word → AuditProblem → Type 0
IsJournalProblem m files journal Fault = Unit {0}
IsJournalProblem m files journal NoMemory = Unit {0}
IsJournalProblem m files journal NoJournal = file_of files journal ≡ None
IsJournalProblem m files journal TooLong = JournalIs files journal (λ text. (2 ^ 62 < length text) × IsOpen m (take (2 ^ 62) text))
IsJournalProblem m files journal (Text f) = JournalIs files journal (λ text. IsTextProblem m text (Text f))
IsJournalProblem m files journal (Refused r) = JournalIs files journal (λ text. IsTextProblem m text (Refused r))
IsJournalProblem m files journal NoOutput = ⊥
IsJournalProblem m files journal (Netlist byte) = ⊥

-- and so it is where the shelf tells its files
abbrev pub IsToldProblem : Option Files → Model → Word → AuditProblem → Type 0
IsToldProblem files m journal problem = IfSome files (λ told. IsJournalProblem m told journal problem)

-- the whole text is accepted
abbrev pub EndsWith : Model → List ℕ → Turn → Type 0
EndsWith m text (GoesOn stage now) = ⊥
EndsWith m text (Ends graph tally) = IsAcceptedWith m text (net_of graph) tally

-- problems of the shelf and of memory
abbrev pub IsOutside : AuditProblem → Type 0
IsOutside NoJournal = Unit {0}
IsOutside Fault = Unit {0}
IsOutside NoMemory = Unit {0}
IsOutside _ = ⊥

-- problems of the journal itself, and want of memory
abbrev pub IsInside : AuditProblem → Type 0
IsInside NoMemory = Unit {0}
IsInside TooLong = Unit {0}
IsInside (Text f) = f ≢ fault.NoMemory
IsInside (Refused r) = r.why ≢ why.NoMemory
IsInside _ = ⊥

-- either
abbrev pub IsOfJournal : AuditProblem → Type 0
IsOfJournal problem = IsOutside problem ⊎ IsInside problem
