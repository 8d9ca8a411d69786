-- Texts appended one after another, and runs of records put together.
use Rattle.std.specs.Prelude.{◌≡◌, ℕ, ◌+◌, List, [], ◌++◌, length, Option, Result, OnErr}
use Rattle.rm_base.specs.Files.{Files}
use Rattle.rm_base.specs.declared.settings.Made.{Made}
use Rattle.gate_net.specs.Net.{Net}
use Rattle.wire_edit.specs.declared.steps.Step.{Step}
use Rattle.journal_text.specs.declared.append.Stop.{Stop}
use Rattle.journal_text.specs.declared.record.Record.{Record}
use Rattle.journal_text.specs.Appends.{IsRecorded, IsThere}
use Rattle.journal_text.specs.Runs.{AcceptedTo, AreRemovals, AreWritable, HasAppended, HasAppendedPart, made_by, records_text, steps_of}

-- what holds of texts that are appended to a file
pub record TextsAppend : Type 0 where
  -- one text after another is both
  pub follows : (old mid new : Option Files) (name a b : List ℕ) → HasAppended old mid name a → HasAppended mid new name b → HasAppended old new name (a ++ b)
  -- a text and a part of the next are a part of both
  pub part : (old mid new : Option Files) (name a b : List ℕ) → HasAppended old mid name a → HasAppendedPart mid new name b → HasAppendedPart old new name (a ++ b)
  -- a part of a text is one of every text that begins with it
  pub longer : (old new : Option Files) (name a b : List ℕ) → HasAppendedPart old new name a → HasAppendedPart old new name (a ++ b)
  -- the whole is a part
  pub whole : (old new : Option Files) (name a : List ℕ) → HasAppended old new name a → HasAppendedPart old new name a
  -- the file stays there
  pub stays : (old new : Option Files) (name a : List ℕ) → IsThere old name → HasAppended old new name a → IsThere new name
  -- where nothing is done, no byte is appended
  pub none : (files : Option Files) (name : List ℕ) → IsThere files name → HasAppended files files name []
  pub none_part : (files : Option Files) (name a : List ℕ) → IsThere files name → HasAppendedPart files files name a
  -- a stop leaves a part
  pub stopped : (result : Result (Unit {0}) Stop) (old new : Option Files) (name a : List ℕ) → IsThere old name → IsRecorded result old new name a → OnErr result (HasAppendedPart old new name a)

-- what holds of lists of records and steps that are put together
pub record RunsJoin : Type 0 where
  pub text : (a b : List Record) → records_text (a ++ b) ≡ records_text a ++ records_text b
  pub steps : (a b : List Record) → steps_of (a ++ b) ≡ steps_of a ++ steps_of b
  pub made : (m : Made) (a b : List Step) → made_by m (a ++ b) ≡ made_by (made_by m a) b
  -- as many are made as there are steps
  pub counts : (m : Made) (a : List Step) → (made_by m a).adds + (made_by m a).fixes + (made_by m a).local ≡ m.adds + m.fixes + m.local + length a
  pub removals : (a b : List Step) → AreRemovals a → AreRemovals b → AreRemovals (a ++ b)
  pub writable : (a b : List Record) → AreWritable a → AreWritable b → AreWritable (a ++ b)
  pub accepted : (net mid after : Net) (a b : List Record) → AcceptedTo net a mid → AcceptedTo mid b after → AcceptedTo net (a ++ b) after
  -- an accepted run has a step for each record
  pub each : (net after : Net) (a : List Record) → AcceptedTo net a after → length (steps_of a) ≡ length a
