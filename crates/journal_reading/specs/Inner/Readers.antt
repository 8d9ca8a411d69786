-- What a reader of either version holds.
use Rattle.std.specs.Prelude.{◌≡◌, ◌<◌, ℕ, Bool, true, false, List, [], ◌∷◌, ◌++◌, ◌==◌, if◌then◌else◌, length}
use Rattle.journal_text.specs.Streams.{Pending as Lines}
use Rattle.journal_text.specs.declared.reader.Awaited.{Awaited}
use Rattle.journal_text.specs.declared.reader.Awaited.TheVariants as awaited
use Rattle.journal_binary.specs.Binary.{magic}
use Rattle.journal_binary.specs.Streams.{Waiting}
use Rattle.journal_reading.specs.declared.reader.Form.{Form}
use Rattle.journal_reading.specs.declared.reader.Form.TheVariants.{Bytes, Lines as OfLines, Undecided}
use Rattle.journal_reading.specs.Streams.{Pending, binary, header, lines}

abbrev pub lines_at : Awaited → Lines → Pending
lines_at awaited.Header p = header p.held
lines_at awaited.Record p = lines p
lines_at awaited.Nothing p = lines p

abbrev pub bytes_at : Awaited → Waiting → Pending
bytes_at awaited.Header w = header (magic ++ w.held)
bytes_at awaited.Record w = binary w
bytes_at awaited.Nothing w = binary w

-- what a form of a reader stands for
abbrev pub pending_of : Form → Pending
pending_of (Undecided bytes) = header bytes.items
pending_of (OfLines reader) = lines_at reader.awaited reader
pending_of (Bytes reader) = bytes_at reader.awaited reader

-- a byte is another than that of the first bytes at its place
abbrev pub parts : List ℕ → List ℕ → Bool
parts [] bytes = false
parts (m ∷ ms) [] = false
parts (m ∷ ms) (b ∷ bytes) = if b == m then parts ms bytes else true

abbrev pub AreLines : Awaited → Lines → Type 0
AreLines awaited.Header p = (p.line ≡ 1) × (parts magic p.held ≡ true)
AreLines awaited.Record p = Unit {0}
AreLines awaited.Nothing p = Unit {0}

abbrev pub AreBytes : Awaited → Waiting → Type 0
AreBytes awaited.Header w = (w.number ≡ 0) × (w.left ≡ 0)
AreBytes awaited.Record w = Unit {0}
AreBytes awaited.Nothing w = Unit {0}

abbrev pub IsForm : Form → Type 0
IsForm (Undecided bytes) = (parts magic bytes.items ≡ false) × (length bytes.items < 8)
IsForm (OfLines reader) = AreLines reader.awaited reader
IsForm (Bytes reader) = AreBytes reader.awaited reader
