-- Laws of journals of either version.
use Rattle.std.specs.Prelude.{◌≡◌, ◌≢◌, ◌⊎◌, ◌<◌, ◌≤◌, ◌^◌, ℕ, List, [], ◌++◌, length, Some, Ok, Err, true}
use Rattle.journal_text.specs.Streams.{awaited_after, budget_with, comes, records_of}
use Rattle.journal_text.specs.Text.{IsWritable}
use Rattle.journal_text.specs.declared.record.Record.{Record}
use Rattle.journal_text.specs.declared.record.Entry.{Entry}
use Rattle.journal_text.specs.declared.reader.Awaited.TheVariants as awaited
use Rattle.journal_reading.specs.Faults.{BeginsOpen, BeginsWhole, IsFault, IsJournal, end_number, header_number, record_number}
use Rattle.journal_reading.specs.Streams.{FinishGives, GivesNone, IsReadTo, NextGives, Pending, awaited_of, empty_reader, measure, pushed}
use Rattle.journal_reading.specs.declared.faults.JournalFault.{JournalFault}
use Rattle.journal_reading.specs.declared.faults.JournalFault.TheVariants as fault
use Rattle.journal_reading.specs.declared.faults.Version.{Version}

-- an entry is one that may come there, and less is left
pub record IsNext (old new : Pending) (e : Entry) : Type 0 where
  pub writable : IsWritable e
  pub comes_there : comes (awaited_of old) e ≡ true
  pub awaits : awaited_of new ≡ awaited_after e
  pub less : measure new < measure old

-- what was pushed so far is read to some budget and records, whatever calls come; and a fault is one of every text that goes on so
pub record CutsAgree : Type 0 where
  pub begins : IsReadTo [] 0 [] empty_reader
  pub pushes : (text piece : List ℕ) (b : ℕ) (rs : List Record) (p : Pending) → IsReadTo text b rs p → IsReadTo (text ++ piece) b rs (pushed p piece)
  pub gives : (text : List ℕ) (b : ℕ) (rs : List Record) (old new : Pending) (e : Entry) → IsReadTo text b rs old → NextGives old new (Ok (Some e)) → IsReadTo text (budget_with b e) (rs ++ records_of e) new
  pub next : (old new : Pending) (e : Entry) → NextGives old new (Ok (Some e)) → IsNext old new e
  pub faults : (text more : List ℕ) (b : ℕ) (rs : List Record) (old new : Pending) (f : JournalFault) → IsReadTo text b rs old → length text < 2 ^ 63 → NextGives old new (Err f) → f ≢ fault.NoMemory → IsFault (text ++ more) f
  pub ends : (text : List ℕ) (b : ℕ) (rs : List Record) (p : Pending) → IsReadTo text b rs p → GivesNone p → awaited_of p ≡ awaited.Nothing → IsJournal text b rs
  pub cuts : (text : List ℕ) (b : ℕ) (rs : List Record) (p : Pending) (f : JournalFault) → IsReadTo text b rs p → length text < 2 ^ 63 → GivesNone p → FinishGives p f → IsFault text f

-- what a text that is read so far begins with, and the numbers of what is wrong there
pub record PlacesTell : Type 0 where
  pub few : (text : List ℕ) (b : ℕ) (rs : List Record) (p : Pending) → IsReadTo text b rs p → length rs ≤ length text
  pub opens : (text more : List ℕ) (b : ℕ) (rs : List Record) (p : Pending) → IsReadTo text b rs p → awaited_of p ≡ awaited.Record → BeginsOpen (text ++ more) b rs
  pub whole : (text more : List ℕ) (b : ℕ) (rs : List Record) (p : Pending) → IsReadTo text b rs p → awaited_of p ≡ awaited.Nothing → BeginsWhole (text ++ more) b rs
  pub no_record : (text : List ℕ) (b : ℕ) (rs : List Record) (old new : Pending) (v : Version) (n : ℕ) → IsReadTo text b rs old → length text < 2 ^ 63 → NextGives old new (Err (fault.BadRecord v n))
      → (awaited_of old ≡ awaited.Record) × (n ≡ record_number v (length rs))
  pub more : (text : List ℕ) (b : ℕ) (rs : List Record) (old new : Pending) (v : Version) (n : ℕ) → IsReadTo text b rs old → length text < 2 ^ 63 → NextGives old new (Err (fault.AfterEnd v n))
      → (awaited_of old ≡ awaited.Nothing) × (n ≡ end_number v (length rs))
  pub never : (old new : Pending) (v : Version) (n : ℕ) → NextGives old new (Err (fault.Truncated v n)) → ⊥
  pub cut : (text : List ℕ) (b : ℕ) (rs : List Record) (p : Pending) (f : JournalFault) → IsReadTo text b rs p → length text < 2 ^ 63 → FinishGives p f
      → (v : Version) × ((n : ℕ) × ((f ≡ fault.Truncated v n) × ((n ≡ header_number v) ⊎ ((awaited_of p ≡ awaited.Record) × (n ≡ record_number v (length rs))))))

-- a text is the journal of one budget and one list of records at most, begins with no others, and has no fault then
pub record JournalsAreOne : Type 0 where
  pub one : (text : List ℕ) (b c : ℕ) (rs qs : List Record) → IsJournal text b rs → IsJournal text c qs → (b ≡ c) × (rs ≡ qs)
  pub faultless : (text : List ℕ) (b : ℕ) (rs : List Record) (f : JournalFault) → IsJournal text b rs → IsFault text f → ⊥
  pub opens : (text : List ℕ) (b c : ℕ) (rs qs : List Record) → IsJournal text b rs → BeginsOpen text c qs → (b ≡ c) × ((more : List Record) × (rs ≡ qs ++ more))
  pub whole : (text : List ℕ) (b c : ℕ) (rs qs : List Record) → IsJournal text b rs → BeginsWhole text c qs → (b ≡ c) × (rs ≡ qs)

-- a text has one fault at most, and where it has none it is a journal
pub record FaultsAreOne : Type 0 where
  pub one : (text : List ℕ) (f g : JournalFault) → IsFault text f → IsFault text g → f ≡ g
  pub some : (text : List ℕ) → ((b : ℕ) × ((rs : List Record) × IsJournal text b rs)) ⊎ ((f : JournalFault) × IsFault text f)
