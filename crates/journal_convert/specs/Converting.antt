-- A journal of version 1 as one of version 2.
use Rattle.std.specs.Prelude.{◌≡◌, ◌<◌, ◌^◌, ℕ, List, length, Some, None}
use Rattle.rm_base.specs.Files.{Files, file_of}
use Rattle.rm_base.specs.Words.{Word}
use Rattle.journal_text.specs.Faults.{IsFault, IsJournal}
use Rattle.journal_text.specs.declared.record.Record.{Record}
use Rattle.journal_binary.specs.Binary.{binary_text}
use Rattle.journal_convert.specs.declared.problem.ConvertProblem.{ConvertProblem}
use Rattle.journal_convert.specs.declared.problem.ConvertProblem.TheVariants.{Failed, Missing, NoMemory, Text, TooLong}

-- the text is a journal of version 1, and this is that of version 2 of its budget and records, of which there are so many
pub record IsConverted (text written : List ℕ) (count : ℕ) : Type 0 where
  pub budget : ℕ
  pub records : List Record
  pub journal : IsJournal text budget records
  pub is : written ≡ binary_text budget records
  pub counts : count ≡ length records

-- the file is there, and is so converted
abbrev pub ConvertedFrom : Word → List ℕ → ℕ → Files → Type 0
ConvertedFrom from written count told = (text : List ℕ) × ((file_of told from ≡ Some text) × IsConverted text written count)

-- or why it isn't
abbrev pub NotConverted : Word → Files → ConvertProblem → Type 0
NotConverted from told Failed = Unit {0}
NotConverted from told Missing = file_of told from ≡ None
NotConverted from told TooLong = (text : List ℕ) × ((file_of told from ≡ Some text) × (2 ^ 62 < length text))
NotConverted from told (Text f) = (text : List ℕ) × ((file_of told from ≡ Some text) × IsFault text f)
NotConverted from told NoMemory = Unit {0}
