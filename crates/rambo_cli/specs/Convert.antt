-- The command `convert FROM TO`.
use Rattle.std.specs.Prelude.{◌≡◌, ◌≤◌, ◌<◌, ◌^◌, ◌⊎◌, ℕ, List, Option, IsSomeAnd, length, take, true}
use Rattle.rm_base.specs.Files.{Files, put_file}
use Rattle.rm_base.specs.Words.{Word}
use Rattle.blif_format.specs.declared.refusal.Quantity.{Quantity}
use Rattle.blif_format.specs.declared.refusal.Quantity.TheVariants.{Journal as JournalLimit}
use Rattle.journal_text.specs.Faults.{IsFault, IsJournal}
use Rattle.journal_text.specs.declared.faults.JournalFault.{JournalFault as LineFault}
use Rattle.journal_text.specs.declared.faults.JournalFault.TheVariants as line
use Rattle.journal_text.specs.declared.record.Record.{Record}
use Rattle.journal_reading.specs.declared.faults.JournalFault.{JournalFault}
use Rattle.journal_reading.specs.declared.faults.JournalFault.TheVariants as fault
use Rattle.journal_reading.specs.declared.faults.Version.TheVariants.{One}
use Rattle.journal_convert.specs.Converting.{IsConverted}
use Rattle.journal_convert.specs.declared.problem.ConvertProblem.{ConvertProblem}
use Rattle.journal_convert.specs.declared.problem.ConvertProblem.TheVariants as convert
use Rattle.rambo_cli.specs.Contract.{Contract}
use Rattle.rambo_cli.specs.Files.{Holds, IfTold, IsAbsent, OfFile}
use Rattle.rambo_cli.specs.declared.work.Done.{Done}
use Rattle.rambo_cli.specs.declared.work.Done.TheVariants.{Converted}
use Rattle.rambo_cli.specs.declared.problem.Problem.{Problem}
use Rattle.rambo_cli.specs.declared.problem.Problem.TheVariants.{Limit, Missing, Fault, Journal, Memory}

-- a fault of a journal of version 1 among those of either version
abbrev pub of_lines : LineFault → JournalFault
of_lines (line.BadHeader n) = fault.BadHeader One n
of_lines (line.BadRecord n) = fault.BadRecord One n
of_lines (line.Truncated n) = fault.Truncated One n
of_lines (line.AfterEnd n) = fault.AfterEnd One n
of_lines line.NoMemory = fault.NoMemory

-- the problem that a conversion ends with
abbrev pub convert_problem : ConvertProblem → Problem
convert_problem convert.Failed = Fault
convert_problem convert.Missing = Missing
convert_problem convert.TooLong = Limit JournalLimit 4611686018427387905
convert_problem (convert.Text f) = Journal (of_lines f)
convert_problem convert.NoMemory = Memory

-- TO holds the journal of FROM in version 2, which has so many records, and all other files are as before
pub record HasConverted (from to : Word) (count : ℕ) (old new : Files) : Type 0 where
  pub written : List ℕ
  pub result : Holds old from (λ text. IsConverted text written count)
  pub files : new ≡ put_file to written old

abbrev pub ConvertDoes : Word → Word → Option Files → Option Files → Done → Type 0
ConvertDoes from to old new (Converted count) = IfTold old new (HasConverted from to count)
ConvertDoes from to old new _ = ⊥

-- the text is no journal of version 1: its first fault
pub record HasLineFault (text : List ℕ) (f : JournalFault) : Type 0 where
  pub lines : LineFault
  pub is : f ≡ of_lines lines
  pub first : IsFault text lines

-- FROM has more than 2^62 bytes
pub record IsTooLong (from : Word) (files : Option Files) (quantity : Quantity) (count : ℕ) : Type 0 where
  pub quantity_is : quantity ≡ JournalLimit
  pub count_is : count ≡ 4611686018427387905
  pub long : OfFile from files (λ text. 2 ^ 62 < length text)

-- the first fault of FROM, that it is too long, or that it isn't there
abbrev pub ConvertFinds : Word → Option Files → Problem → Type 0
ConvertFinds from files (Limit quantity count) = IsTooLong from files quantity count
ConvertFinds from files Missing = IsAbsent from files
ConvertFinds from files (Journal f) = OfFile from files (λ text. HasLineFault text f)
ConvertFinds from files _ = ⊥

-- TO holds a beginning of the journal of FROM in version 2
pub record BeginsConverted (from to : Word) (old new : Files) : Type 0 where
  pub written : List ℕ
  pub count : ℕ
  pub result : Holds old from (λ text. IsConverted text written count)
  pub size : ℕ
  pub files : new ≡ put_file to (take size written) old

-- the text is a journal of version 1, and within the limit
pub record CanBeConverted (text : List ℕ) : Type 0 where
  pub short : length text ≤ 2 ^ 62
  pub budget : ℕ
  pub records : List Record
  pub journal : IsJournal text budget records

abbrev pub convert_contract : Word → Word → Contract
convert_contract from to = record {
  Does = ConvertDoes from to;
  Finds = ConvertFinds from;
  Leaves = λ old new. IfTold old new (λ before after. (after ≡ before) ⊎ BeginsConverted from to before after);
  needs_files = true;
  IsGood = λ files. IsSomeAnd files (λ told. Holds told from CanBeConverted);
  IsJudged = λ files. ⊥;
  IsCompared = λ files. ⊥;
}
