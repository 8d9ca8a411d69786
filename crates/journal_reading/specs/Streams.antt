-- A journal of either version that is read as its bytes come.
use Rattle.std.specs.Prelude.{◌≡◌, ◌≢◌, ℕ, ◌+◌, List, [], ◌∷◌, ◌++◌, ◌==◌, length, Option, Some, None, Result, Ok, Err, if◌then◌else◌}
use Rattle.journal_text.specs.Faults.{IsNoHeader}
use Rattle.journal_text.specs.Streams.{GivesEntry, GivesNone as LinesGiveNone, IsReadTo as AreLinesReadTo, Pending as Lines, RefusesByte, RefusesHeader, RefusesRecord}
use Rattle.journal_text.specs.declared.record.Record.{Record}
use Rattle.journal_text.specs.declared.record.Entry.{Entry}
use Rattle.journal_text.specs.declared.reader.Awaited.{Awaited}
use Rattle.journal_text.specs.declared.reader.Awaited.TheVariants as awaited
use Rattle.journal_binary.specs.Binary.{magic}
use Rattle.journal_binary.specs.Streams.{IsReadTo as AreBytesReadTo, Waiting, measure as bytes_measure, gives, refuses, turn, waits}
use Rattle.journal_binary.specs.declared.faults.BinaryFault.TheVariants as binary_fault
use Rattle.journal_reading.specs.Faults.{OfBody}
use Rattle.journal_reading.specs.declared.faults.JournalFault.{JournalFault}
use Rattle.journal_reading.specs.declared.faults.JournalFault.TheVariants as fault
use Rattle.journal_reading.specs.declared.faults.Version.TheVariants.{One, Two}

-- these bytes were pushed, and no entry was given; or the header of one of the versions was
pub data Pending : Type 0 where
  header : List ℕ → Pending
  lines : Lines → Pending
  binary : Waiting → Pending

abbrev pub empty_reader : Pending
empty_reader = header []

-- what entry may come next
abbrev pub awaited_of : Pending → Awaited
awaited_of (header bytes) = awaited.Header
awaited_of (lines p) = p.awaited
awaited_of (binary w) = w.awaited

abbrev pub pushed : Pending → List ℕ → Pending
pushed (header bytes) piece = header (bytes ++ piece)
pushed (lines p) piece = lines (record p { held = p.held ++ piece })
pushed (binary w) piece = binary (record w { held = w.held ++ piece })

-- what stands behind the first bytes, where the bytes begin with them
abbrev pub behind : List ℕ → List ℕ → Option (List ℕ)
behind [] bytes = Some bytes
behind (m ∷ ms) [] = None
behind (m ∷ ms) (b ∷ bytes) = if b == m then behind ms bytes else None

-- a reader of lines, and one of version 2, before the header
abbrev pub first_lines : List ℕ → Lines
first_lines bytes = record { awaited = awaited.Header; line = 1; held = bytes }

abbrev pub first_body : List ℕ → Waiting
first_body bytes = record { awaited = awaited.Header; number = 0; left = 0; held = bytes }

-- what comes of lines, and what of version 2
abbrev pub LinesGive : Pending → Lines → Pending → Result (Option Entry) JournalFault → Type 0
LinesGive old p new (Ok None) = (new ≡ old) × LinesGiveNone p
LinesGive old p new (Ok (Some e)) = (q : Lines) × ((new ≡ lines q) × GivesEntry p q e)
LinesGive old p new (Err (fault.BadHeader One n)) = (new ≡ old) × RefusesHeader p n
LinesGive old p new (Err (fault.BadRecord One n)) = (new ≡ old) × RefusesRecord p n
LinesGive old p new (Err (fault.AfterEnd One n)) = (new ≡ old) × RefusesByte p n
LinesGive old p new (Err fault.NoMemory) = new ≡ old
LinesGive old p new (Err _) = ⊥

abbrev pub BytesGive : Pending → Waiting → Pending → Result (Option Entry) JournalFault → Type 0
BytesGive old w new (Ok None) = (new ≡ old) × (turn w ≡ waits)
BytesGive old w new (Ok (Some e)) = (v : Waiting) × ((new ≡ binary v) × (turn w ≡ gives e v))
BytesGive old w new (Err (fault.BadHeader Two n)) = (new ≡ old) × ((n ≡ 0) × (turn w ≡ refuses binary_fault.BadHeader))
BytesGive old w new (Err (fault.BadRecord Two n)) = (new ≡ old) × (turn w ≡ refuses (binary_fault.BadRecord n))
BytesGive old w new (Err (fault.AfterEnd Two n)) = (new ≡ old) × (turn w ≡ refuses (binary_fault.AfterEnd n))
BytesGive old w new (Err fault.NoMemory) = new ≡ old
BytesGive old w new (Err _) = ⊥

-- by what stands behind the eight bytes of version 2, if they are there
abbrev pub HeaderGives : Option (List ℕ) → List ℕ → Pending → Result (Option Entry) JournalFault → Type 0
HeaderGives None bytes new answer = LinesGive (header bytes) (first_lines bytes) new answer
HeaderGives (Some body) bytes new answer = BytesGive (header bytes) (first_body body) new answer

-- what `next` answers and leaves
abbrev pub NextGives : Pending → Pending → Result (Option Entry) JournalFault → Type 0
NextGives (header bytes) new answer = HeaderGives (behind magic bytes) bytes new answer
NextGives (lines p) new answer = LinesGive (lines p) p new answer
NextGives (binary w) new answer = BytesGive (binary w) w new answer

-- entries come, one after another
abbrev pub GivesAll : Pending → List Entry → Pending → Type 0
GivesAll old [] new = new ≡ old
GivesAll old (e ∷ es) new = (mid : Pending) × (NextGives old mid (Ok (Some e)) × GivesAll mid es new)

abbrev pub HeaderGivesNone : Option (List ℕ) → List ℕ → Type 0
HeaderGivesNone None bytes = LinesGiveNone (first_lines bytes)
HeaderGivesNone (Some body) bytes = turn (first_body body) ≡ waits

-- no entry is whole, and no byte is wrong
abbrev pub GivesNone : Pending → Type 0
GivesNone (header bytes) = HeaderGivesNone (behind magic bytes) bytes
GivesNone (lines p) = LinesGiveNone p
GivesNone (binary w) = turn w ≡ waits

-- these entries come, and then none that is whole, or a fault
abbrev pub Gathers : Pending → List Entry → Option JournalFault → Pending → Type 0
Gathers old es None new = GivesAll old es new × GivesNone new
Gathers old es (Some f) new = GivesAll old es new × ((f ≢ fault.NoMemory) × NextGives new new (Err f))

abbrev pub cut_header : Option (List ℕ) → JournalFault
cut_header None = fault.Truncated One 1
cut_header (Some body) = fault.Truncated Two 0

-- what `finish` answers
abbrev pub FinishGives : Pending → JournalFault → Type 0
FinishGives (header bytes) f = f ≡ cut_header (behind magic bytes)
FinishGives (lines p) f = (p.awaited ≢ awaited.Nothing) × (f ≡ fault.Truncated One p.line)
FinishGives (binary w) f = (w.awaited ≢ awaited.Nothing) × (f ≡ fault.Truncated Two w.number)

-- the text has been read so far
abbrev pub IsReadTo : List ℕ → ℕ → List Record → Pending → Type 0
IsReadTo text budget records (header bytes) = (records ≡ []) × (text ≡ bytes)
IsReadTo text budget records (lines p) = (p.awaited ≢ awaited.Header) × AreLinesReadTo text budget records p
IsReadTo text budget records (binary w) = (w.awaited ≢ awaited.Header) × OfBody text (λ body. AreBytesReadTo body budget records w)

-- how many calls may still give an entry, at most
abbrev pub measure : Pending → ℕ
measure (header bytes) = 2 + length bytes
measure (lines p) = 1 + length p.held
measure (binary w) = bytes_measure w
