-- The command `opt IN OUT [JOURNAL]`.
use Rattle.std.specs.Prelude.{◌≡◌, ◌<◌, ◌≤◌, ◌^◌, ◌⊎◌, ℕ, List, Option, None, Some, IsSomeAnd, length, take, true}
use Rattle.rm_base.specs.Files.{Files, put_file}
use Rattle.rm_base.specs.declared.settings.Settings.{Settings}
use Rattle.rm_model.specs.declared.parts.Model.{Model}
use Rattle.blif_format.specs.declared.refusal.Quantity.TheVariants.{Journal as JournalLimit}
use Rattle.cover_decompose.specs.Count.{decomposed}
use Rattle.optimisation.specs.Begun.{IsBeginning}
use Rattle.optimisation.specs.declared.optimised.Figures.{Figures}
use Rattle.rambo_cli.specs.Check.{check_contract}
use Rattle.rambo_cli.specs.Contract.{Contract, FindsAlone}
use Rattle.rambo_cli.specs.Files.{Holds, IfTold}
use Rattle.rambo_cli.specs.Headline.{IsOptimisedInto}
use Rattle.rambo_cli.specs.Input.{CanBeOptimised, ReadFinds}
use Rattle.rambo_cli.specs.Written.{IsSaid, most_pins}
use Rattle.rambo_cli.specs.declared.work.Done.{Done}
use Rattle.rambo_cli.specs.declared.work.Done.TheVariants.{Optimised}
use Rattle.rambo_cli.specs.declared.problem.Problem.TheVariants.{Limit}
use Rattle.rm_base.specs.Words.{Word}

-- the files with the journal, where it is named
abbrev pub with_journal : Option Word → List ℕ → Files → Files
with_journal None recorded files = files
with_journal (Some journal) recorded files = put_file journal recorded files

-- an output is written for the model, and the journal where it is named, and all other files are as before; there is an accepted
-- journal in either case
pub record HasWritten (model : Model) (output : Word) (journal : Option Word) (settings : Settings) (figures : Figures) (old new : Files) : Type 0 where
  pub few : decomposed model ≤ most_pins
  pub recorded : List ℕ
  pub written : List ℕ
  pub result : IsOptimisedInto model settings figures recorded written
  pub files : new ≡ put_file output written (with_journal journal recorded old)

-- the journal is longer than `check` reads, and nothing else is found of these files: it ends with 5
abbrev pub IsOverlong : Word → Word → Word → Files → Type 0
IsOverlong input journal output told =
    Holds told journal (λ text. 2 ^ 62 < length text) × FindsAlone (check_contract input journal output) (Some told) (Limit JournalLimit 4611686018427387905)

-- over these files `check IN JOURNAL OUT` is good, or the journal is longer than it reads
abbrev pub IsChecked : Word → Word → Option Word → Files → Type 0
IsChecked input output None told = Unit {0}
IsChecked input output (Some journal) told = (check_contract input journal output).IsGood (Some told) ⊎ IsOverlong input journal output told

-- that is so of the model that the input says, and of the files `check`
abbrev pub HasOptimised : Word → Word → Option Word → Settings → Figures → Files → Files → Type 0
HasOptimised input output journal settings figures old new =
    (model : Model) × (Holds old input (λ text. IsSaid text model) × (HasWritten model output journal settings figures old new × IsChecked input output journal new))

abbrev pub OptDoes : Word → Word → Option Word → Settings → Option Files → Option Files → Done → Type 0
OptDoes input output journal settings old new (Optimised figures) = IfTold old new (HasOptimised input output journal settings figures)
OptDoes input output journal settings old new _ = ⊥

-- the journal holds a beginning of the header and of accepted records, and the output is as it was
abbrev pub BeginsJournal : Model → ℕ → Option Word → Files → Files → Type 0
BeginsJournal model budget None old new = ⊥
BeginsJournal model budget (Some journal) old new = (bytes : List ℕ) × (IsBeginning model budget bytes × (new ≡ put_file journal bytes old))

-- the journal is whole, and the output holds what it held or a beginning of its text
pub record BeginsOutput (model : Model) (settings : Settings) (output : Word) (journal : Option Word) (old new : Files) : Type 0 where
  pub figures : Figures
  pub recorded : List ℕ
  pub written : List ℕ
  pub result : IsOptimisedInto model settings figures recorded written
  pub files : (new ≡ with_journal journal recorded old) ⊎ ((k : ℕ) × (new ≡ put_file output (take k written) (with_journal journal recorded old)))

-- nothing has changed, or one of these is so of the model
abbrev pub BeginsToWriteFor : Model → Word → Option Word → Settings → Files → Files → Type 0
BeginsToWriteFor model output journal settings old new =
    (new ≡ old) ⊎ (BeginsJournal model settings.budget journal old new ⊎ BeginsOutput model settings output journal old new)

-- of the model that the input says
abbrev pub BeginsToWrite : Word → Word → Option Word → Settings → Files → Files → Type 0
BeginsToWrite input output journal settings old new =
    (new ≡ old) ⊎ ((model : Model) × (Holds old input (λ text. IsSaid text model) × BeginsToWriteFor model output journal settings old new))

abbrev pub opt_contract : Word → Word → Option Word → Settings → Contract
opt_contract input output journal settings = record {
  Does = OptDoes input output journal settings;
  Finds = ReadFinds input;
  Leaves = λ old new. IfTold old new (BeginsToWrite input output journal settings);
  needs_files = true;
  IsGood = λ files. IsSomeAnd files (λ told. Holds told input CanBeOptimised);
  IsJudged = λ files. ⊥;
  IsCompared = λ files. ⊥;
}
