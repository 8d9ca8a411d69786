-- Beside Streams.antt: what only private contracts, invariants and laws speak of.
use Rattle.std.specs.Prelude.{◌≡◌, ◌≢◌, ℕ, true, Option, Some, None}
use Rattle.journal_text.specs.declared.record.Entry.{Entry}
use Rattle.journal_text.specs.declared.faults.JournalFault.{JournalFault}
use Rattle.journal_text.specs.declared.faults.JournalFault.TheVariants as fault
use Rattle.journal_text.specs.declared.reader.Awaited.{Awaited}
use Rattle.journal_text.specs.declared.reader.Awaited.TheVariants as awaited
use Rattle.journal_text.specs.Text.{IsEntry, entry_line}
use Rattle.rm_base.specs.Words.{Word}
use Rattle.journal_text.specs.Streams.{comes}

-- the line says the entry, which may come there; none where no such entry has that line
abbrev pub IsRead : Awaited → Word → Option Entry → Type 0
IsRead a line None = (e : Entry) → IsEntry e → comes a e ≡ true → line ≢ entry_line e
IsRead a line (Some e) = IsEntry e × ((comes a e ≡ true) × (line ≡ entry_line e))

abbrev pub fault_at : Awaited → ℕ → JournalFault
fault_at awaited.Header n = fault.BadHeader n
fault_at awaited.Record n = fault.BadRecord n
fault_at awaited.Nothing n = fault.BadRecord n
