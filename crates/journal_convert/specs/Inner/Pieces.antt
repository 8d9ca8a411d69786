-- How far a journal of version 1 is read.
use Rattle.std.specs.Prelude.{◌≡◌, ◌≤◌, ◌^◌, ℕ, List, ◌++◌, Option, Some, Result, Ok, Err}
use Rattle.rm_base.specs.Files.{Files, file_of}
use Rattle.rm_base.specs.Words.{Word}
use Rattle.file_pieces.specs.Pieces.{IsReadSoFar}
use Rattle.journal_text.specs.Faults.{IsFault, IsJournal}
use Rattle.journal_text.specs.Streams.{GivesNone, IsReadTo, Pending}
use Rattle.journal_text.specs.declared.record.Record.{Record}
use Rattle.journal_convert.specs.declared.problem.ConvertProblem.{ConvertProblem}
use Rattle.journal_convert.specs.declared.problem.ConvertProblem.TheVariants.{NoMemory, Text}

-- a fault of every text that goes on so, or want of memory
abbrev pub IsFaultOf : List ℕ → ConvertProblem → Type 0
IsFaultOf text NoMemory = Unit {0}
IsFaultOf text (Text f) = (more : List ℕ) → IsFault (text ++ more) f
IsFaultOf text _ = ⊥

-- what one more piece leads to
abbrev pub PieceSays : List ℕ → Result (Unit {0}) ConvertProblem → ℕ → List Record → Pending → Type 0
PieceSays text (Ok _) budget records p = IsReadTo text budget records p × GivesNone p
PieceSays text (Err problem) budget records p = IsFaultOf text problem

-- so many bytes of the file are read, to this budget and these records
pub record IsConverting (files : Option Files) (name : Word) (from budget : ℕ) (records : List Record) (p : Pending) : Type 0 where
  pub text : List ℕ
  pub so_far : IsReadSoFar files name text from
  pub short : from ≤ 2 ^ 62
  pub read : IsReadTo text budget records p
  pub none : GivesNone p

-- what is known at the end of the text
abbrev pub EndSays : List ℕ → ℕ → List Record → Result (Unit {0}) ConvertProblem → Type 0
EndSays text budget records (Ok _) = IsJournal text budget records
EndSays text budget records (Err NoMemory) = Unit {0}
EndSays text budget records (Err (Text f)) = IsFault text f
EndSays text budget records (Err _) = ⊥

-- the file is there, and a journal of that budget and these records
abbrev pub ReadFrom : Word → ℕ → List Record → Files → Type 0
ReadFrom from budget records told = (text : List ℕ) × ((file_of told from ≡ Some text) × IsJournal text budget records)
