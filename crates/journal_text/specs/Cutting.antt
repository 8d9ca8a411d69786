-- However a text is cut into pieces, a reader gives the entries and the fault of the whole.
use Rattle.std.specs.Prelude.{◌≡◌, ◌≢◌, ℕ, ◌^◌, ◌<◌, List, [], ◌++◌, length, Some, Ok, Err, ◌⊎◌}
use Rattle.journal_text.specs.declared.record.Record.{Record}
use Rattle.journal_text.specs.declared.record.Entry.{Entry}
use Rattle.journal_text.specs.declared.faults.JournalFault.{JournalFault}
use Rattle.journal_text.specs.declared.faults.JournalFault.TheVariants as fault
use Rattle.journal_text.specs.declared.reader.Awaited.TheVariants as awaited
use Rattle.journal_text.specs.Faults.{IsFault, IsJournal}
use Rattle.journal_text.specs.Streams.{Pending, NextGives, FinishGives, GivesNone, IsReadTo, budget_with, records_of, empty_reader}

-- what was pushed so far is read to some budget and records, whatever calls come, and a fault is one of every text that goes on so
pub record CutsAgree : Type 0 where
  pub begins : IsReadTo [] 0 [] empty_reader
  pub pushes : (text piece : List ℕ) (b : ℕ) (rs : List Record) (p : Pending) → IsReadTo text b rs p → IsReadTo (text ++ piece) b rs (record p { held = p.held ++ piece })
  pub gives : (text : List ℕ) (b : ℕ) (rs : List Record) (old new : Pending) (e : Entry) → IsReadTo text b rs old → NextGives old new (Ok (Some e)) → IsReadTo text (budget_with b e) (rs ++ records_of e) new
  pub faults : (text more : List ℕ) (b : ℕ) (rs : List Record) (old new : Pending) (f : JournalFault) → IsReadTo text b rs old → length text < 2 ^ 63 → NextGives old new (Err f) → f ≢ fault.NoMemory → IsFault (text ++ more) f
  pub ends : (text : List ℕ) (b : ℕ) (rs : List Record) (p : Pending) → IsReadTo text b rs p → GivesNone p → p.awaited ≡ awaited.Nothing → IsJournal text b rs
  pub cuts : (text : List ℕ) (b : ℕ) (rs : List Record) (p : Pending) (f : JournalFault) → IsReadTo text b rs p → length text < 2 ^ 63 → GivesNone p → FinishGives p f → IsFault text f

-- a text is the journal of one budget and one list of records at most, and a journal has no fault
pub record JournalsAreOne : Type 0 where
  pub one : (text : List ℕ) (b c : ℕ) (rs qs : List Record) → IsJournal text b rs → IsJournal text c qs → (b ≡ c) × (rs ≡ qs)
  pub faultless : (text : List ℕ) (b : ℕ) (rs : List Record) (f : JournalFault) → IsJournal text b rs → IsFault text f → ⊥

-- a text has one fault at most, and where it has none it is a journal
pub record FaultsAreOne : Type 0 where
  pub one : (text : List ℕ) (f g : JournalFault) → IsFault text f → IsFault text g → f ≡ g
  pub some : (text : List ℕ) → ((b : ℕ) × ((rs : List Record) × IsJournal text b rs)) ⊎ ((f : JournalFault) × IsFault text f)
