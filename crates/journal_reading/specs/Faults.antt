-- Which texts are journals, of either version, and what is wrong with the others: one fault.
use Rattle.std.specs.Prelude.{◌≡◌, ◌⊎◌, ℕ, ◌+◌, List, ◌++◌}
use Rattle.journal_text.specs.Faults.{IsFault as IsLineFault, IsJournal as IsLinesOf, opening}
use Rattle.journal_text.specs.Text.{AreEntries, entries_text, journal_entries}
use Rattle.journal_text.specs.declared.record.Entry.{Entry}
use Rattle.journal_text.specs.declared.record.Record.{Record}
use Rattle.journal_text.specs.declared.faults.JournalFault.TheVariants as line
use Rattle.journal_binary.specs.Binary.{magic}
use Rattle.journal_binary.specs.Faults.{IsBody, IsBodyFault, Opens}
use Rattle.journal_binary.specs.declared.faults.BinaryFault.TheVariants as binary
use Rattle.journal_reading.specs.declared.faults.JournalFault.{JournalFault}
use Rattle.journal_reading.specs.declared.faults.JournalFault.TheVariants as fault
use Rattle.journal_reading.specs.declared.faults.Version.{Version}
use Rattle.journal_reading.specs.declared.faults.Version.TheVariants.{One, Two}

-- the text begins with the eight bytes of version 2, and this holds of what stands behind them
abbrev pub OfBody : List ℕ → (List ℕ → Type 0) → Type 0
OfBody text P = (body : List ℕ) × ((text ≡ magic ++ body) × P body)

-- every other text is one of version 1
abbrev pub IsOfLines : List ℕ → Type 0
IsOfLines text = (body : List ℕ) → text ≡ magic ++ body → ⊥

-- the text is a journal of that budget and these records, in one of the versions
abbrev pub IsJournal : List ℕ → ℕ → List Record → Type 0
IsJournal text budget records = IsLinesOf text budget records ⊎ OfBody text (λ body. IsBody body budget records)

-- the text begins with these lines
pub record BeginsWith (text : List ℕ) (entries : List Entry) : Type 0 where
  pub valid : AreEntries entries
  pub rest : List ℕ
  pub is : text ≡ entries_text entries ++ rest

-- the text begins with a header and these records
abbrev pub BeginsOpen : List ℕ → ℕ → List Record → Type 0
BeginsOpen text budget records = BeginsWith text (opening budget records) ⊎ OfBody text (λ body. (left : ℕ) × ((rest : List ℕ) × Opens body budget records left rest))

-- the text begins with a whole journal
abbrev pub BeginsWhole : List ℕ → ℕ → List Record → Type 0
BeginsWhole text budget records = BeginsWith text (journal_entries budget records) ⊎ OfBody text (λ body. (rest : List ℕ) × Opens body budget records 0 rest)

-- the number that a fault has at the header, at the record behind so many, and behind the end of so many: that of the line in
-- version 1, and of the record in version 2
abbrev pub header_number : Version → ℕ
header_number One = 1
header_number Two = 0

abbrev pub record_number : Version → ℕ → ℕ
record_number One count = 2 + count
record_number Two count = 1 + count

abbrev pub end_number : Version → ℕ → ℕ
end_number One count = 3 + count
end_number Two count = 1 + count

abbrev pub IsFault : List ℕ → JournalFault → Type 0
IsFault text (fault.BadHeader One n) = IsOfLines text × IsLineFault text (line.BadHeader n)
IsFault text (fault.BadHeader Two n) = OfBody text (λ body. IsBodyFault body binary.BadHeader) × (n ≡ 0)
IsFault text (fault.BadRecord One n) = IsOfLines text × IsLineFault text (line.BadRecord n)
IsFault text (fault.BadRecord Two n) = OfBody text (λ body. IsBodyFault body (binary.BadRecord n))
IsFault text (fault.Truncated One n) = IsOfLines text × IsLineFault text (line.Truncated n)
IsFault text (fault.Truncated Two n) = OfBody text (λ body. IsBodyFault body (binary.Truncated n))
IsFault text (fault.AfterEnd One n) = IsOfLines text × IsLineFault text (line.AfterEnd n)
IsFault text (fault.AfterEnd Two n) = OfBody text (λ body. IsBodyFault body (binary.AfterEnd n))
IsFault text fault.NoMemory = ⊥
