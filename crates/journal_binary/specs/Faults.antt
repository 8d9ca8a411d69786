-- Which bytes, behind the eight that tell the version, are a journal, and what is wrong with the others: one fault, the first in the order of the bytes.
use Rattle.std.specs.Prelude.{◌≡◌, ◌≢◌, ◌⊎◌, ℕ, ◌+◌, ◌<◌, List, [], length}
use Rattle.journal_text.specs.declared.record.Record.{Record}
use Rattle.journal_binary.specs.declared.faults.BinaryFault.{BinaryFault}
use Rattle.journal_binary.specs.declared.faults.BinaryFault.TheVariants as fault
use Rattle.journal_binary.specs.Fronts.{Front, bad, got, read_head, read_record, read_records, short}

-- the bytes begin with a header and these records; so many records are still to come, and this is left
pub record Opens (bytes : List ℕ) (budget : ℕ) (records : List Record) (left : ℕ) (rest : List ℕ) : Type 0 where
  pub behind : List ℕ
  pub head : read_head bytes ≡ got (budget, length records + left) behind
  pub read : read_records (length records) behind ≡ got records rest

-- the bytes are a header, all its records, and nothing more
abbrev pub IsBody : List ℕ → ℕ → List Record → Type 0
IsBody bytes budget records = Opens bytes budget records 0 []

-- where the next record should stand, this is read
pub record StopsBy (bytes : List ℕ) (number : ℕ) (found : Front Record) : Type 0 where
  pub budget : ℕ
  pub records : List Record
  pub left : ℕ
  pub rest : List ℕ
  pub opens : Opens bytes budget records left rest
  pub some : 0 < left
  pub is : read_record rest ≡ found
  pub counts : number ≡ 1 + length records

-- a byte follows the last record
pub record HasMore (bytes : List ℕ) (number : ℕ) : Type 0 where
  pub budget : ℕ
  pub records : List Record
  pub rest : List ℕ
  pub opens : Opens bytes budget records 0 rest
  pub more : rest ≢ []
  pub counts : number ≡ 1 + length records

-- the bytes end before the header is whole
pub record IsCutHead (bytes : List ℕ) (number : ℕ) : Type 0 where
  pub is : read_head bytes ≡ short
  pub counts : number ≡ 0

abbrev pub IsBodyFault : List ℕ → BinaryFault → Type 0
IsBodyFault bytes fault.BadHeader = read_head bytes ≡ bad
IsBodyFault bytes (fault.BadRecord n) = StopsBy bytes n bad
IsBodyFault bytes (fault.Truncated n) = IsCutHead bytes n ⊎ StopsBy bytes n short
IsBodyFault bytes (fault.AfterEnd n) = HasMore bytes n
IsBodyFault bytes fault.NoMemory = ⊥
