-- What a journal holds where a run ended early.
use Rattle.std.specs.Prelude.{◌≡◌, ◌⊎◌, ℕ, List, ◌++◌, take, Option}
use Rattle.std.specs.Option.{option_map}
use Rattle.rm_base.specs.Files.{Files, put_file}
use Rattle.rm_model.specs.declared.parts.Model.{Model}
use Rattle.gate_net.specs.Net.{Net}
use Rattle.cover_decompose.specs.Decomposition.{net_of_model}
use Rattle.journal_text.specs.Text.{entry_text, journal_text}
use Rattle.journal_text.specs.Runs.{AcceptedTo, records_text}
use Rattle.journal_text.specs.declared.record.Record.{Record}
use Rattle.journal_text.specs.declared.record.Entry.TheVariants.{Header}
use Rattle.journal_check.specs.Accepts.{IsAccepted}

-- a beginning of the header and of steps that are accepted one after another
pub record BeginsSteps (m : Model) (budget : ℕ) (bytes : List ℕ) : Type 0 where
  pub records : List Record
  pub last : Net
  pub accepted : AcceptedTo (net_of_model m) records last
  pub kept : ℕ
  pub are : bytes ≡ take kept (entry_text (Header budget) ++ records_text records)

-- a beginning of the text of an accepted journal
pub record BeginsWhole (m : Model) (budget : ℕ) (bytes : List ℕ) : Type 0 where
  pub records : List Record
  pub last : Net
  pub accepted : IsAccepted m budget records last
  pub kept : ℕ
  pub are : bytes ≡ take kept (journal_text budget records)

abbrev pub IsBeginning : Model → ℕ → List ℕ → Type 0
IsBeginning m budget bytes = BeginsSteps m budget bytes ⊎ BeginsWhole m budget bytes

-- nothing has changed, or the journal holds a beginning of the header and of accepted records, and all else is as it was
abbrev pub HasBegun : Model → ℕ → List ℕ → Option Files → Option Files → Type 0
HasBegun m budget journal old new = (new ≡ old) ⊎ ((bytes : List ℕ) × (IsBeginning m budget bytes × (new ≡ option_map (put_file journal bytes) old)))
