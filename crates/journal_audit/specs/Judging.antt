-- What a journal says of a model, and what is wrong with it: the first fault or refusal in the order of its text.
use Rattle.std.specs.Prelude.{◌≡◌, ◌⊎◌, ℕ, ◌+◌, List, [], ◌∷◌, ◌++◌, length}
use Rattle.rm_model.specs.declared.parts.Model.{Model}
use Rattle.gate_net.specs.Net.{Net}
use Rattle.cover_decompose.specs.Decomposition.{net_of_model}
use Rattle.journal_text.specs.declared.record.Record.{Record}
use Rattle.journal_reading.specs.declared.faults.JournalFault.{JournalFault}
use Rattle.journal_reading.specs.declared.faults.JournalFault.TheVariants as fault
use Rattle.journal_text.specs.declared.reader.Awaited.{Awaited}
use Rattle.journal_text.specs.declared.reader.Awaited.TheVariants as awaited
use Rattle.journal_reading.specs.Faults.{BeginsOpen, BeginsWhole, IsFault, IsJournal, end_number, header_number, record_number}
use Rattle.journal_reading.specs.Streams.{GivesNone, IsReadTo, Pending, awaited_of}
use Rattle.journal_check.specs.Accepts.{IsAccepted}
use Rattle.journal_check.specs.Replaying.{EndLeads, LeadOn, Leads, Position, editing, refused}
use Rattle.journal_check.specs.declared.refusal.JournalRefusal.{JournalRefusal}

-- the text is a journal that the model accepts, with that last net and so many records
pub record IsAcceptedText (m : Model) (text : List ℕ) (last : Net) (count : ℕ) : Type 0 where
  pub budget : ℕ
  pub records : List Record
  pub journal : IsJournal text budget records
  pub accepted : IsAccepted m budget records last
  pub counts : count ≡ length records

-- the text begins with a header and so many records, none of which is refused
pub record GoesTo (m : Model) (text : List ℕ) (count : ℕ) : Type 0 where
  pub budget : ℕ
  pub records : List Record
  pub begins : BeginsOpen text budget records
  pub position : Position
  pub leads : LeadOn budget (editing (net_of_model m)) records position
  pub counts : count ≡ length records

-- a record is refused, and none before it
pub record IsRefusedRecord (m : Model) (text : List ℕ) (refusal : JournalRefusal) : Type 0 where
  pub budget : ℕ
  pub records : List Record
  pub given : Record
  pub begins : BeginsOpen text budget (records ++ given ∷ [])
  pub position : Position
  pub leads : LeadOn budget (editing (net_of_model m)) records position
  pub refuses : Leads budget position given (refused refusal.why)
  pub number : refusal.number ≡ 1 + length records

-- the end is refused, and no record before it
pub record IsRefusedEnd (m : Model) (text : List ℕ) (refusal : JournalRefusal) : Type 0 where
  pub budget : ℕ
  pub records : List Record
  pub begins : BeginsWhole text budget records
  pub position : Position
  pub leads : LeadOn budget (editing (net_of_model m)) records position
  pub refuses : EndLeads position (refused refusal.why)
  pub number : refusal.number ≡ 1 + length records

abbrev pub IsRefusedText : Model → List ℕ → JournalRefusal → Type 0
IsRefusedText m text refusal = IsRefusedRecord m text refusal ⊎ IsRefusedEnd m text refusal

-- the text begins with a journal that the model accepts
pub record BeginsAccepted (m : Model) (text : List ℕ) (count : ℕ) : Type 0 where
  pub budget : ℕ
  pub records : List Record
  pub begins : BeginsWhole text budget records
  pub last : Net
  pub accepted : IsAccepted m budget records last
  pub counts : count ≡ length records

-- nothing is refused before the fault's line or record
abbrev pub NoneBefore : Model → List ℕ → JournalFault → Type 0
NoneBefore m text (fault.BadHeader v n) = Unit {0}
NoneBefore m text (fault.BadRecord v n) = (count : ℕ) × (GoesTo m text count × (n ≡ record_number v count))
NoneBefore m text (fault.Truncated v n) = (n ≡ header_number v) ⊎ ((count : ℕ) × (GoesTo m text count × (n ≡ record_number v count)))
NoneBefore m text (fault.AfterEnd v n) = (count : ℕ) × (BeginsAccepted m text count × (n ≡ end_number v count))
NoneBefore m text fault.NoMemory = ⊥

-- the fault of the text, before which nothing is refused
pub record IsFaultyText (m : Model) (text : List ℕ) (f : JournalFault) : Type 0 where
  pub fault_is : IsFault text f
  pub none_before : NoneBefore m text f

-- the records so far aren't refused
abbrev pub LeadSoFar : Model → ℕ → List Record → Awaited → Type 0
LeadSoFar m budget records awaited.Header = records ≡ []
LeadSoFar m budget records awaited.Record = (q : Position) × LeadOn budget (editing (net_of_model m)) records q
LeadSoFar m budget records awaited.Nothing = (last : Net) × IsAccepted m budget records last

-- no whole entry has a fault or is refused, and there is no byte behind the end
pub record IsOpen (m : Model) (text : List ℕ) : Type 0 where
  pub budget : ℕ
  pub records : List Record
  pub state : Pending
  pub read : IsReadTo text budget records state
  pub none : GivesNone state
  pub so_far : LeadSoFar m budget records (awaited_of state)
