-- Beside Fronts.antt: a record of which a part was read.
use Rattle.std.specs.Prelude.{◌≡◌, ◌≤◌, ℕ, Bool, true, false, List, ◌++◌, drop, length}
use Rattle.refutation.specs.declared.items.Item.{Item}
use Rattle.journal_text.specs.declared.record.Record.{Record}
use Rattle.journal_text.specs.declared.record.Record.TheVariants as kept
use Rattle.journal_binary.specs.Fronts.{Front, got, read_bit, read_item, read_many, read_record, then_read}
use Rattle.journal_binary.specs.declared.openings.Begun.{Begun}
use Rattle.journal_binary.specs.declared.openings.Begun.TheVariants as begun
use Rattle.journal_binary.specs.declared.openings.Opened.{Opened}
use Rattle.journal_binary.specs.declared.openings.Opened.TheVariants as opened
use Rattle.journal_binary.specs.declared.parts.Part.{Part}
use Rattle.journal_binary.specs.declared.parts.Part.TheVariants as part

-- the record of the items
abbrev pub whole_of : Begun → List Item → Record
whole_of (begun.Step s) tree = kept.Step s tree
whole_of (begun.Spent f) tree = kept.Spent f tree

-- these, and so many more
abbrev pub more_of : {A : Type 0} → (List ℕ → Front A) → List A → ℕ → List ℕ → Front (List A)
more_of read done left bytes = then_read (read_many read left bytes) (λ more rest. got (done ++ more) rest)

-- what bytes behind an opening make of it
abbrev pub made_of : Opened → List ℕ → Front Record
made_of (opened.Items what left) bytes = then_read (read_many read_item left bytes) (λ items rest. got (whole_of what items) rest)
made_of (opened.Bits fault left) bytes = then_read (read_many read_bit left bytes) (λ bits rest. got (kept.Hit fault bits) rest)

-- what the bytes that weren't read yet make of the part
abbrev pub made : Part → List ℕ → Front Record
made part.Between bytes = read_record bytes
made (part.Items what tree left) bytes = then_read (more_of read_item tree left bytes) (λ items rest. got (whole_of what items) rest)
made (part.Bits fault values left) bytes = then_read (more_of read_bit values.items left bytes) (λ bits rest. got (kept.Hit fault bits) rest)

abbrev pub is_between : Part → Bool
is_between part.Between = true
is_between (part.Items what tree left) = false
is_between (part.Bits fault values left) = false

-- no item and no bit is to come
abbrev pub IsWhole : Part → Type 0
IsWhole part.Between = ⊥
IsWhole (part.Items what tree left) = left ≡ 0
IsWhole (part.Bits fault values left) = left ≡ 0

-- one reading from one place is the other from the other, whatever follows
pub record Continues {A : Type 0} (f g : List ℕ → Front A) (bytes : List ℕ) (from to : ℕ) : Type 0 where
  pub after : from ≤ to
  pub within : to ≤ length bytes
  pub same : (more : List ℕ) → f (drop from bytes ++ more) ≡ g (drop to bytes ++ more)

-- the places are in the bytes, and behind the second one the part goes on
pub record IsKept (bytes : List ℕ) (start seen : ℕ) (p : Part) : Type 0 where
  pub first : start ≤ length bytes
  pub goes : Continues read_record (made p) bytes start seen
