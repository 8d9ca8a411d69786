-- Bytes of version 2 that are read as they come.
use Rattle.std.specs.Prelude.{◌≡◌, ◌≢◌, ℕ, suc, zero, ◌+◌, ◌^◌, ◌-◌, min, List, [], ◌∷◌, length, Option, Some, None, Result, Ok, Err}
use Rattle.journal_text.specs.declared.record.Record.{Record}
use Rattle.journal_text.specs.declared.record.Entry.{Entry}
use Rattle.journal_text.specs.declared.record.Entry.TheVariants as entry
use Rattle.journal_text.specs.declared.reader.Awaited.{Awaited}
use Rattle.journal_text.specs.declared.reader.Awaited.TheVariants as awaited
use Rattle.journal_text.specs.Streams.{next_line}
use Rattle.journal_binary.specs.declared.faults.BinaryFault.{BinaryFault}
use Rattle.journal_binary.specs.declared.faults.BinaryFault.TheVariants as fault
use Rattle.journal_binary.specs.Faults.{Opens}
use Rattle.journal_binary.specs.Fronts.{Front, bad, got, read_head, read_record, short}

-- what entry may come next; the number of the next record, 0 before the header; how many records are still to come; and the bytes
-- that were pushed and not yet given
pub record Waiting : Type 0 where
  pub awaited : Awaited
  pub number : ℕ
  pub left : ℕ
  pub held : List ℕ

abbrev pub empty_body : Waiting
empty_body = record { awaited = awaited.Header; number = 0; left = 0; held = [] }

-- an entry comes; or its bytes aren't whole yet, and no byte of them is wrong; or one is
pub data Turn : Type 0 where
  gives : Entry → Waiting → Turn
  waits : Turn
  refuses : BinaryFault → Turn

abbrev pub head_turn : Waiting → Front (ℕ × ℕ) → Turn
head_turn w (got head rest) = gives (entry.Header head.0) (record { awaited = awaited.Record; number = next_line w.number; left = head.1; held = rest })
head_turn w bad = refuses fault.BadHeader
head_turn w short = waits

abbrev pub one_turn : Waiting → ℕ → Front Record → Turn
one_turn w left (got r rest) = gives (entry.Record r) (record { awaited = awaited.Record; number = next_line w.number; left = left; held = rest })
one_turn w left bad = refuses (fault.BadRecord w.number)
one_turn w left short = waits

-- the end comes behind the last record, and takes no byte
abbrev pub record_turn : Waiting → ℕ → Turn
record_turn w zero = gives entry.End (record w { awaited = awaited.Nothing })
record_turn w (suc left) = one_turn w left (read_record w.held)

abbrev pub rest_turn : Waiting → List ℕ → Turn
rest_turn w [] = waits
rest_turn w (b ∷ bytes) = refuses (fault.AfterEnd w.number)

abbrev pub turn_at : Awaited → Waiting → Turn
turn_at awaited.Header w = head_turn w (read_head w.held)
turn_at awaited.Record w = record_turn w w.left
turn_at awaited.Nothing w = rest_turn w w.held

-- what comes next
abbrev pub turn : Waiting → Turn
turn w = turn_at w.awaited w

-- what `next` answers and leaves
abbrev pub NextGives : Waiting → Waiting → Result (Option Entry) BinaryFault → Type 0
NextGives old new (Ok None) = (new ≡ old) × (turn old ≡ waits)
NextGives old new (Ok (Some e)) = turn old ≡ gives e new
NextGives old new (Err fault.BadHeader) = (new ≡ old) × (turn old ≡ refuses fault.BadHeader)
NextGives old new (Err (fault.BadRecord n)) = (new ≡ old) × (turn old ≡ refuses (fault.BadRecord n))
NextGives old new (Err (fault.Truncated n)) = ⊥
NextGives old new (Err (fault.AfterEnd n)) = (new ≡ old) × (turn old ≡ refuses (fault.AfterEnd n))
NextGives old new (Err fault.NoMemory) = new ≡ old

-- what `finish` answers
abbrev pub FinishGives : Waiting → BinaryFault → Type 0
FinishGives w (fault.Truncated n) = (w.awaited ≢ awaited.Nothing) × (n ≡ w.number)
FinishGives w _ = ⊥

-- before the header nothing was read; behind it these records were, and so many are to come; behind the end all were
abbrev pub ReadAt : Awaited → List ℕ → ℕ → List Record → Waiting → Type 0
ReadAt awaited.Header bytes budget records w = (records ≡ []) × ((w.number ≡ 0) × (bytes ≡ w.held))
ReadAt awaited.Record bytes budget records w = (w.number ≡ min (1 + length records) (2 ^ 64 - 1)) × Opens bytes budget records w.left w.held
ReadAt awaited.Nothing bytes budget records w = (w.number ≡ min (1 + length records) (2 ^ 64 - 1)) × ((w.left ≡ 0) × Opens bytes budget records 0 w.held)

-- the bytes have been read so far
abbrev pub IsReadTo : List ℕ → ℕ → List Record → Waiting → Type 0
IsReadTo bytes budget records w = ReadAt w.awaited bytes budget records w

-- how many calls may still give an entry, at most
abbrev pub after_end : Awaited → ℕ
after_end awaited.Header = 2
after_end awaited.Record = 1
after_end awaited.Nothing = 0

abbrev pub measure : Waiting → ℕ
measure w = after_end w.awaited + length w.held
