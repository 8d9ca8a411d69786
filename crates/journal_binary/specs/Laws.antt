-- Laws of version 2.
use Rattle.std.specs.Prelude.{◌≡◌, ◌≢◌, ◌⊎◌, ◌<◌, ◌≤◌, ◌^◌, ℕ, List, [], ◌++◌, length, Some, Ok, Err}
use Rattle.std.specs.List.{AllByRecursion}
use Rattle.journal_text.specs.declared.record.Record.{Record}
use Rattle.journal_text.specs.declared.record.Record.TheVariants as kept
use Rattle.journal_text.specs.declared.record.Entry.{Entry}
use Rattle.journal_text.specs.declared.record.Entry.TheVariants as entry
use Rattle.journal_text.specs.declared.reader.Awaited.TheVariants as awaited
use Rattle.journal_text.specs.Streams.{budget_with, records_of}
use Rattle.journal_text.specs.Text.{AreEntries, IsEntry, IsWritable, journal_entries}
use Rattle.journal_binary.specs.declared.faults.BinaryFault.{BinaryFault}
use Rattle.journal_binary.specs.declared.faults.BinaryFault.TheVariants as fault
use Rattle.journal_binary.specs.Binary.{body_text, record_bytes}
use Rattle.journal_binary.specs.Faults.{IsBody, IsBodyFault, Opens}
use Rattle.journal_binary.specs.Fronts.{got, read_record}
use Rattle.journal_binary.specs.Streams.{FinishGives, IsReadTo, NextGives, Waiting, empty_body, measure, turn, waits}

-- its tree or vector has a count of 64 bits
abbrev pub IsCounted : Record → Type 0
IsCounted (kept.Step s tree) = length tree < 2 ^ 64
IsCounted (kept.Hit fault vector) = length vector < 2 ^ 64
IsCounted (kept.Spent fault tree) = length tree < 2 ^ 64

abbrev pub AreBytes : List ℕ → Type 0
AreBytes bytes = AllByRecursion (λ (b : ℕ). b < 256) bytes

-- bytes are read as a record exactly where they begin with its bytes, and as a journal exactly where they are its text
pub record BytesRead : Type 0 where
  pub reads : (r : Record) (rest : List ℕ) → IsEntry (entry.Record r) → IsCounted r → read_record (record_bytes r ++ rest) ≡ got r rest
  pub only : (bytes rest : List ℕ) (r : Record) → AreBytes bytes → read_record bytes ≡ got r rest → (bytes ≡ record_bytes r ++ rest) × IsEntry (entry.Record r)
  pub texts : (budget : ℕ) (records : List Record) → AreEntries (journal_entries budget records) → AllByRecursion IsCounted records → length records < 2 ^ 64 → IsBody (body_text budget records) budget records
  pub texts_only : (bytes : List ℕ) (budget : ℕ) (records : List Record) → AreBytes bytes → IsBody bytes budget records → bytes ≡ body_text budget records

-- what was pushed so far is read to some budget and records, whatever calls come, and a fault is one of all bytes that go on so
pub record CutsAgree : Type 0 where
  pub begins : IsReadTo [] 0 [] empty_body
  pub pushes : (bytes piece : List ℕ) (b : ℕ) (rs : List Record) (w : Waiting) → IsReadTo bytes b rs w → IsReadTo (bytes ++ piece) b rs (record w { held = w.held ++ piece })
  pub gives : (bytes : List ℕ) (b : ℕ) (rs : List Record) (old new : Waiting) (e : Entry) → IsReadTo bytes b rs old → NextGives old new (Ok (Some e)) → IsReadTo bytes (budget_with b e) (rs ++ records_of e) new
  pub writable : (old new : Waiting) (e : Entry) → NextGives old new (Ok (Some e)) → IsWritable e
  -- with each entry less is left
  pub less : (old new : Waiting) (e : Entry) → NextGives old new (Ok (Some e)) → measure new < measure old
  pub faults : (bytes more : List ℕ) (b : ℕ) (rs : List Record) (old new : Waiting) (f : BinaryFault) → IsReadTo bytes b rs old → length bytes < 2 ^ 63 → NextGives old new (Err f) → f ≢ fault.NoMemory → IsBodyFault (bytes ++ more) f
  pub ends : (bytes : List ℕ) (b : ℕ) (rs : List Record) (w : Waiting) → IsReadTo bytes b rs w → turn w ≡ waits → w.awaited ≡ awaited.Nothing → IsBody bytes b rs
  pub cuts : (bytes : List ℕ) (b : ℕ) (rs : List Record) (w : Waiting) (f : BinaryFault) → IsReadTo bytes b rs w → length bytes < 2 ^ 63 → turn w ≡ waits → FinishGives w f → IsBodyFault bytes f
  -- each record has a byte
  pub small : (bytes rest : List ℕ) (b : ℕ) (rs : List Record) (left : ℕ) → Opens bytes b rs left rest → length rs ≤ length bytes
  -- what bytes begin with stays where more follow
  pub stays : (bytes rest more : List ℕ) (b : ℕ) (rs : List Record) (left : ℕ) → Opens bytes b rs left rest → Opens (bytes ++ more) b rs left (rest ++ more)

-- bytes are the journal of one budget and one list of records at most, begin with no others, and have no fault
pub record BodiesAreOne : Type 0 where
  pub opened : (bytes rest : List ℕ) (b c : ℕ) (rs qs : List Record) (left : ℕ) → IsBody bytes b rs → Opens bytes c qs left rest → (b ≡ c) × ((behind : List Record) × ((rs ≡ qs ++ behind) × (left ≡ length behind)))
  pub faultless : (bytes : List ℕ) (b : ℕ) (rs : List Record) (f : BinaryFault) → IsBody bytes b rs → IsBodyFault bytes f → ⊥

-- bytes have one fault at most, and where they have none they are a journal
pub record FaultsAreOne : Type 0 where
  pub one : (bytes : List ℕ) (f g : BinaryFault) → IsBodyFault bytes f → IsBodyFault bytes g → f ≡ g
  pub some : (bytes : List ℕ) → ((b : ℕ) × ((rs : List Record) × IsBody bytes b rs)) ⊎ ((f : BinaryFault) × IsBodyFault bytes f)
