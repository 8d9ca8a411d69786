-- The command `tests IN JOURNAL OUT PATTERNS`.
use Rattle.std.specs.Prelude.{◌≡◌, ◌≤◌, ◌<◌, ◌⊎◌, ℕ, Bool, List, Option, None, Some, IsSomeAnd, length, slice_get, take, true}
use Rattle.rm_base.specs.Files.{Files, put_file}
use Rattle.rm_base.specs.Words.{Word}
use Rattle.rm_model.specs.declared.parts.Model.{Model}
use Rattle.rm_model.specs.Value.{Equivalent}
use Rattle.gate_net.specs.Faults.{faults_of}
use Rattle.cover_decompose.specs.Count.{decomposed}
use Rattle.graph_to_model.specs.NetModel.{model_of_net}
use Rattle.model_faults.specs.ModelFaults.{DetectsIn, ModelFault, faults_of_model}
use Rattle.test_patterns.specs.Classes.{AreLast}
use Rattle.pattern_text.specs.Text.{Tests, counts_of, tests_text}
use Rattle.pattern_text.specs.declared.counts.Counts.{Counts}
use Rattle.journal_audit.specs.Audited.{IsPassed}
use Rattle.journal_audit.specs.Verdicts.{said_of}
use Rattle.rambo_cli.specs.Check.{AreThere, CheckFinds, HasPassed}
use Rattle.rambo_cli.specs.Contract.{Contract}
use Rattle.rambo_cli.specs.Files.{Holds, IfTold}
use Rattle.rambo_cli.specs.Written.{IsSaid, most_pins}
use Rattle.rambo_cli.specs.declared.work.Done.{Done}
use Rattle.rambo_cli.specs.declared.work.Done.TheVariants.{Tested}

-- the vector detects the fault of the model
abbrev pub IsTestOf : Model → ModelFault → List Bool → Type 0
IsTestOf out fault vector = DetectsIn out vector fault.cover fault.position fault.value

-- the pattern of that number detects the fault, and none before it does
pub record IsFirstTest (out : Model) (t : Tests) (fault : ModelFault) (number : ℕ) : Type 0 where
  pub pattern : List Bool
  pub pattern_is : slice_get t.patterns number ≡ Some pattern
  pub detects : IsTestOf out fault pattern
  pub before : (k : ℕ) (other : List Bool) → k < number → slice_get t.patterns k ≡ Some other → IsTestOf out fault other → ⊥

-- the j-th fault stands under the first pattern that detects it, where the journal has a hit for it; or it is one whose search was
-- cut short, and stands under none
abbrev pub StandsBy : Model → Tests → ModelFault → Option (List Bool) → Option ℕ → Type 0
StandsBy out t fault (Some vector) (Some number) = IsTestOf out fault vector × IsFirstTest out t fault number
StandsBy out t fault None None = Unit {0}
StandsBy out t fault _ _ = ⊥

-- The patterns of a model, sentence by sentence, where `said` is what the journal says of each fault: the vector of a hit, or None
-- for a search that was cut short.
pub record AreTestsOf (out : Model) (said : List (Option (List Bool))) (t : Tests) : Type 0 where
  -- each fault of the model, and no other, has one verdict in the journal and one line
  pub said_each : length said ≡ length (faults_of_model out)
  pub lines_each : length t.firsts ≡ length (faults_of_model out)
  -- each fault of a hit stands under the first pattern that detects it, and exactly the others are listed as cut short
  pub stands : (j : ℕ) (fault : ModelFault) (verdict : Option (List Bool)) (first : Option ℕ) → slice_get (faults_of_model out) j ≡ Some fault → slice_get said j ≡ Some verdict → slice_get t.firsts j ≡ Some first
      → StandsBy out t fault verdict first
  -- under each pattern stands a fault
  pub used : (i : ℕ) → i < length t.patterns → (j : ℕ) × (slice_get t.firsts j ≡ Some (Some i))
  -- each pattern is the vector of a hit, and no two are alike: there are no more patterns than different vectors
  pub of_journal : (i : ℕ) (pattern : List Bool) → slice_get t.patterns i ≡ Some pattern → (j : ℕ) × (slice_get said j ≡ Some (Some pattern))
  pub different : (i k : ℕ) (pattern : List Bool) → slice_get t.patterns i ≡ Some pattern → slice_get t.patterns k ≡ Some pattern → i ≡ k

-- the audit is passed, and these are patterns of the output's model, with the last faults of its classes marked
pub record HasTests (model : Model) (journal output : Word) (told : Files) (out : Model) (t : Tests) : Type 0 where
  pub records : ℕ
  pub passed : IsPassed model told journal output records
  pub out_is : out ≡ model_of_net model passed.last
  pub same_function : Equivalent model out
  pub tests : AreTestsOf out (said_of passed.accepted.accepted.records) t
  pub classes : AreLast passed.last (faults_of passed.last) t.lasts

-- their text is written, and nothing else has changed
pub record HasWrittenTests (input journal output patterns : Word) (counts : Counts) (old new : Files) : Type 0 where
  pub model : Model
  pub input_is : Holds old input (λ text. IsSaid text model)
  pub few : decomposed model ≤ most_pins
  pub out : Model
  pub t : Tests
  pub has : HasTests model journal output old out t
  pub files : new ≡ put_file patterns (tests_text out t) old
  pub counts_are : counts ≡ counts_of t

abbrev pub TestsDoes : Word → Word → Word → Word → Option Files → Option Files → Done → Type 0
TestsDoes input journal output patterns old new (Tested counts) = IfTold old new (HasWrittenTests input journal output patterns counts)
TestsDoes input journal output patterns old new _ = ⊥

-- a beginning of their text is written, and nothing else has changed
pub record BeginsText (input journal output patterns : Word) (old new : Files) : Type 0 where
  pub model : Model
  pub input_is : Holds old input (λ text. IsSaid text model)
  pub out : Model
  pub t : Tests
  pub has : HasTests model journal output old out t
  pub length : ℕ
  pub files : new ≡ put_file patterns (take length (tests_text out t)) old

abbrev pub BeginsTests : Word → Word → Word → Word → Files → Files → Type 0
BeginsTests input journal output patterns old new = (new ≡ old) ⊎ BeginsText input journal output patterns old new

abbrev pub tests_contract : Word → Word → Word → Word → Contract
tests_contract input journal output patterns = record {
  Does = TestsDoes input journal output patterns;
  Finds = CheckFinds input journal output;
  Leaves = λ old new. IfTold old new (BeginsTests input journal output patterns);
  needs_files = true;
  IsGood = λ files. IsSomeAnd files (λ told. (count : ℕ) × HasPassed input journal output count told);
  IsJudged = λ files. IsSomeAnd files (AreThere input journal output);
  IsCompared = λ files. ⊥;
}
