-- The command `cut IN WIDTH PREFIX`.
use Rattle.std.specs.Prelude.{◌≡◌, ◌≤◌, ◌<◌, ◌+◌, ◌⊎◌, ℕ, suc, List, [], ◌∷◌, All, Option, None, Some, IsSomeAnd, length, slice_get, take, true}
use Rattle.rm_base.specs.Files.{Files, put_file}
use Rattle.rm_base.specs.Words.{Word}
use Rattle.rm_model.specs.declared.parts.Model.{Model}
use Rattle.blif_format.specs.Text.{text_of}
use Rattle.blif_format.specs.declared.refusal.Quantity.{Quantity}
use Rattle.blif_format.specs.declared.refusal.Quantity.TheVariants.{Windows}
use Rattle.window_fit.specs.Shared.{shared_windows}
use Rattle.rambo_cli.specs.Contract.{Contract}
use Rattle.rambo_cli.specs.Files.{Holds, IfTold, OfFile}
use Rattle.rambo_cli.specs.Flat.{CanBeFlattened, FlatFinds, IsFlat, wide_limits}
use Rattle.rambo_cli.specs.Windows.{IsWindow, most_windows, window_file}
use Rattle.rambo_cli.specs.declared.work.Done.{Done}
use Rattle.rambo_cli.specs.declared.work.Done.TheVariants.{Cut}
use Rattle.rambo_cli.specs.declared.problem.Problem.{Problem}
use Rattle.rambo_cli.specs.declared.problem.Problem.TheVariants.{Limit}

-- each window's text in its file; the first has the number k
abbrev pub put_windows : Word → ℕ → List Model → Files → Files
put_windows prefix k [] files = files
put_windows prefix k (w ∷ ws) files = put_windows prefix (suc k) ws (put_file (window_file prefix k) (text_of w) files)

-- how many signals the windows hand on, to other windows or to what is observed
abbrev pub signals_of : List Model → ℕ
signals_of [] = 0
signals_of (w ∷ ws) = length w.outputs + signals_of ws

-- the windows of the text's flat model, in which equal covers are merged first
pub record IsCutInto (text : List ℕ) (width shift : ℕ) (windows : List Model) : Type 0 where
  pub model : Model
  pub instances : ℕ
  pub flat : IsFlat wide_limits text model instances
  pub are : windows ≡ shared_windows width shift model
  pub few : length windows ≤ most_windows
  pub each : All IsWindow windows

-- each window of the input's text stands in its file, and all other files are as before
pub record HasCut (input : Word) (width : ℕ) (prefix : Word) (shift count signals : ℕ) (old new : Files) : Type 0 where
  pub windows : List Model
  pub result : Holds old input (λ text. IsCutInto text width shift windows)
  pub counted : count ≡ length windows
  pub handed_on : signals ≡ signals_of windows
  pub files : new ≡ put_windows prefix 1 windows old

abbrev pub CutDoes : Word → ℕ → Word → ℕ → Option Files → Option Files → Done → Type 0
CutDoes input width prefix shift old new (Cut count signals) = IfTold old new (HasCut input width prefix shift count signals)
CutDoes input width prefix shift old new _ = ⊥

-- the first windows stand in their files, and of the next one a beginning does
pub record HavePart (prefix : Word) (windows : List Model) (old new : Files) : Type 0 where
  pub whole : ℕ
  pub window : Model
  pub next : slice_get windows whole ≡ Some window
  pub count : ℕ
  pub files : new ≡ put_file (window_file prefix (whole + 1)) (take count (text_of window)) (put_windows prefix 1 (take whole windows) old)

-- so many of the windows stand in their files
pub record HaveFirst (prefix : Word) (windows : List Model) (old new : Files) : Type 0 where
  pub whole : ℕ
  pub files : new ≡ put_windows prefix 1 (take whole windows) old

-- some windows of the input's text stand in their files
pub record BeginsCut (input : Word) (width : ℕ) (prefix : Word) (shift : ℕ) (old new : Files) : Type 0 where
  pub windows : List Model
  pub result : Holds old input (λ text. IsCutInto text width shift windows)
  pub begun : HaveFirst prefix windows old new ⊎ HavePart prefix windows old new

-- the text's flat model has more windows than there may be
pub record HasManyWindows (width shift : ℕ) (text : List ℕ) (quantity : Quantity) (count : ℕ) : Type 0 where
  pub model : Model
  pub instances : ℕ
  pub flat : IsFlat wide_limits text model instances
  pub many : most_windows < length (shared_windows width shift model)
  pub named : quantity ≡ Windows
  pub counted : count ≡ length (shared_windows width shift model)

-- what flattening the input finds, or too many windows
abbrev pub CutFinds : Word → ℕ → ℕ → Option Files → Problem → Type 0
CutFinds input width shift files (Limit quantity count) = FlatFinds wide_limits input files (Limit quantity count) ⊎ OfFile input files (λ text. HasManyWindows width shift text quantity count)
CutFinds input width shift files problem = FlatFinds wide_limits input files problem

-- the text has a flat model, which has no more windows than there may be
pub record CanBeCut (width shift : ℕ) (text : List ℕ) : Type 0 where
  pub flattened : CanBeFlattened wide_limits text
  pub few : (model : Model) (instances : ℕ) → IsFlat wide_limits text model instances → length (shared_windows width shift model) ≤ most_windows

abbrev pub cut_contract : Word → ℕ → Word → ℕ → Contract
cut_contract input width prefix shift = record {
  Does = CutDoes input width prefix shift;
  Finds = CutFinds input width shift;
  Leaves = λ old new. IfTold old new (λ before after. (after ≡ before) ⊎ BeginsCut input width prefix shift before after);
  needs_files = true;
  IsGood = λ files. IsSomeAnd files (λ told. Holds told input (CanBeCut width shift));
  IsJudged = λ files. ⊥;
  IsCompared = λ files. ⊥;
}
