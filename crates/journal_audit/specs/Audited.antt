-- What an audit says of the files.
use Rattle.std.specs.Prelude.{◌≡◌, ◌≢◌, ℕ, ◌<◌, ◌≤◌, ◌^◌, List, length, take, Some, None}
use Rattle.rm_base.specs.Files.{Files, file_of}
use Rattle.rm_model.specs.declared.parts.Model.{Model}
use Rattle.gate_net.specs.Net.{Net}
use Rattle.blif_format.specs.Text.{text_of}
use Rattle.graph_to_model.specs.Laws.{AreFew}
use Rattle.graph_to_model.specs.NetModel.{model_of_net}
use Rattle.gate_graph.specs.Circuit.{net_of}
use Rattle.journal_reading.specs.declared.faults.JournalFault.TheVariants as fault
use Rattle.journal_text.specs.declared.record.Record.{Record}
use Rattle.journal_check.specs.Accepts.{IsAccepted}
use Rattle.journal_audit.specs.Verdicts.{VerdictList, said_in, said_of}
use Rattle.journal_audit.specs.declared.auditing.Audited.{Audited}
use Rattle.journal_check.specs.declared.refusal.Why.TheVariants as why
use Rattle.journal_audit.specs.Differences.{DifferAt}
use Rattle.journal_audit.specs.Judging.{IsAcceptedText, IsFaultyText, IsOpen, IsRefusedText}
use Rattle.journal_audit.specs.declared.problem.AuditProblem.{AuditProblem}
use Rattle.journal_audit.specs.declared.problem.AuditProblem.TheVariants.{Fault, Netlist, NoJournal, NoMemory, NoOutput, Refused, Text, TooLong}
use Rattle.rm_base.specs.Words.{Word}

-- the journal is there, within its limit and accepted, with that last net and so many records
pub record HasAccepted (m : Model) (files : Files) (journal : Word) (last : Net) (count : ℕ) : Type 0 where
  pub text : List ℕ
  pub there : file_of files journal ≡ Some text
  pub short : length text ≤ 2 ^ 62
  pub accepted : IsAcceptedText m text last count

-- the net is the last one of an accepted journal, whose verdicts these are
pub record IsLast (m : Model) (last : Net) (verdicts : VerdictList) : Type 0 where
  pub budget : ℕ
  pub records : List Record
  pub accepted : IsAccepted m budget records last
  pub said : said_in verdicts ≡ said_of records

-- the journal is there and accepted, and these are its verdicts
pub record HasSaid (m : Model) (files : Files) (journal : Word) (last : Net) (count : ℕ) (verdicts : VerdictList) : Type 0 where
  pub is : HasAccepted m files journal last count
  pub said : said_in verdicts ≡ said_of is.accepted.records

-- the journal is accepted, and the output is the text of its last net's model, which is small enough to be read again
pub record IsPassed (m : Model) (files : Files) (journal output : Word) (count : ℕ) : Type 0 where
  pub last : Net
  pub accepted : HasAccepted m files journal last count
  pub few : AreFew last m
  pub written : file_of files output ≡ Some (text_of (model_of_net m last))

-- the audit is passed with that last net and these verdicts
pub record PassedWith (m : Model) (files : Files) (journal output : Word) (a : Audited) : Type 0 where
  pub is : IsPassed m files journal output a.count
  pub last_is : is.last ≡ net_of a.graph
  pub said : said_in a.verdicts ≡ said_of is.accepted.accepted.records

abbrev pub JournalIs : Files → Word → (List ℕ → Type 0) → Type 0
JournalIs files journal P = (text : List ℕ) × ((file_of files journal ≡ Some text) × P text)

-- what each problem says of the files
abbrev pub IsProblem : Model → Files → Word → Word → AuditProblem → Type 0
IsProblem m files journal output Fault = Unit {0}
IsProblem m files journal output NoMemory = Unit {0}
IsProblem m files journal output NoJournal = file_of files journal ≡ None
IsProblem m files journal output NoOutput = (last : Net) × ((count : ℕ) × (HasAccepted m files journal last count × (file_of files output ≡ None)))
IsProblem m files journal output TooLong = JournalIs files journal (λ text. (2 ^ 62 < length text) × IsOpen m (take (2 ^ 62) text))
IsProblem m files journal output (Text f) = JournalIs files journal (λ text. IsFaultyText m text f)
IsProblem m files journal output (Refused r) = JournalIs files journal (λ text. IsRefusedText m text r)
IsProblem m files journal output (Netlist byte) =
    (last : Net) × ((count : ℕ) × (HasAccepted m files journal last count
    × ((found : List ℕ) × ((file_of files output ≡ Some found) × DifferAt (text_of (model_of_net m last)) found byte))))

-- a problem that the files have, and neither the shelf nor memory
abbrev pub IsOfFiles : AuditProblem → Type 0
IsOfFiles Fault = ⊥
IsOfFiles NoMemory = ⊥
IsOfFiles _ = Unit {0}

-- a fault or a refusal isn't want of memory
abbrev pub IsPlain : AuditProblem → Type 0
IsPlain (Text f) = f ≢ fault.NoMemory
IsPlain (Refused r) = r.why ≢ why.NoMemory
IsPlain _ = Unit {0}

-- files with such a problem don't pass
abbrev pub ProblemsExclude : Type 0
ProblemsExclude =
    (m : Model) (files : Files) (journal output : Word) (problem : AuditProblem) (count : ℕ) → IsOfFiles problem → IsProblem m files journal output problem
    → IsPassed m files journal output count → ⊥

-- of a journal that is accepted but longer than 2^62 bytes nothing is found but its length
abbrev pub LongJournalsTell : Type 0
LongJournalsTell =
    (m : Model) (files : Files) (journal output : Word) (text : List ℕ) (last : Net) (count : ℕ) → file_of files journal ≡ Some text → IsAcceptedText m text last count → 2 ^ 62 < length text
    → (problem : AuditProblem) → IsOfFiles problem → IsProblem m files journal output problem → problem ≡ TooLong
