-- The command `sew IN WIDTH PREFIX OUT`.
use Rattle.std.specs.Prelude.{◌≡◌, ◌≤◌, ◌<◌, ◌+◌, ◌^◌, ◌⊎◌, ℕ, suc, Bool, true, false, List, [], ◌∷◌, Option, None, Some, IfSome, IsSomeAnd, length, slice_get, take}
use Rattle.rm_base.specs.Files.{Files, file_of, put_file}
use Rattle.rm_base.specs.Words.{Word}
use Rattle.rm_model.specs.Value.{Equivalent, IsRanked}
use Rattle.rm_model.specs.declared.parts.Model.{Model}
use Rattle.wire_edit.specs.declared.steps.Step.{Step}
use Rattle.blif_lines.specs.Layout.{lines_of}
use Rattle.blif_format.specs.Grammar.{Reads}
use Rattle.blif_format.specs.Text.{text_of}
use Rattle.blif_format.specs.declared.refusal.Quantity.TheVariants.{Journal as JournalLimit}
use Rattle.cover_decompose.specs.Count.{decomposed}
use Rattle.accepted_steps.specs.Taken.{TakenFrom}
use Rattle.accepted_steps.specs.declared.stop.Stop.{Stop}
use Rattle.window_parts.specs.Part.{IsPartOf}
use Rattle.window_fit.specs.Shared.{sewn_again, shared_windows}
use Rattle.rambo_cli.specs.Contract.{Contract}
use Rattle.rambo_cli.specs.Files.{Holds, IfTold}
use Rattle.rambo_cli.specs.Flat.{IsFlat, wide_limits}
use Rattle.rambo_cli.specs.Cut.{CanBeCut, CutFinds}
use Rattle.rambo_cli.specs.Windows.{most_windows, window_journal}
use Rattle.rambo_cli.specs.declared.work.Done.{Done}
use Rattle.rambo_cli.specs.declared.work.Done.TheVariants.{Sewn}
use Rattle.rambo_cli.specs.declared.problem.Problem.{Problem}
use Rattle.rambo_cli.specs.declared.problem.Problem.TheVariants.{Limit, Window}

-- what stands for each window, in order, the first of the number k: replayed from its journal where the flag says so, and otherwise
-- the window as it is
abbrev pub AreMadeOf : Word → ℕ → List Model → List Model → List Bool → Files → Type 0
AreMadeOf prefix k [] [] [] told = Unit {0}
AreMadeOf prefix k [] [] (b ∷ bs) told = ⊥
AreMadeOf prefix k [] (p ∷ ps) bs told = ⊥
AreMadeOf prefix k (w ∷ ws) [] bs told = ⊥
AreMadeOf prefix k (w ∷ ws) (p ∷ ps) [] told = ⊥
AreMadeOf prefix k (w ∷ ws) (p ∷ ps) (b ∷ bs) told = IsPartOf w (window_journal prefix k) p b told × AreMadeOf prefix (suc k) ws ps bs told

abbrev pub count_replayed : List Bool → ℕ
count_replayed [] = 0
count_replayed (true ∷ bs) = suc (count_replayed bs)
count_replayed (false ∷ bs) = count_replayed bs

-- what stands for the windows, and how many of them were replayed
pub record HaveParts (prefix : Word) (windows parts : List Model) (replayed : ℕ) (told : Files) : Type 0 where
  pub flags : List Bool
  pub made : AreMadeOf prefix 1 windows parts flags told
  pub counted : replayed ≡ count_replayed flags

-- these parts are sewn together; or, where that has more wires than the model, it stays as it is
abbrev pub IsChosen : Model → List Model → Model → Type 0
IsChosen model parts made = (made ≡ sewn_again model parts) ⊎ ((made ≡ model) × (decomposed model < decomposed (sewn_again model parts)))

-- The output that is written for a model and parts for its windows.
pub record IsSewnInto (model : Model) (parts : List Model) (wires before : ℕ) (output : List ℕ) : Type 0 where
  pub made : Model
  pub chosen : IsChosen model parts made
  -- the text written is an acyclic model of the grammar
  pub spelled : output ≡ text_of made
  pub of_the_grammar : Reads (lines_of output) made
  pub acyclic : IsRanked made
  -- that for every assignment gives the original's outputs and latch pins
  pub same_function : Equivalent model made
  -- with no more gate-input wires than the decomposition
  pub counted : wires ≡ decomposed made
  pub counted_before : before ≡ decomposed model
  pub no_more_wires : wires ≤ before

-- the text's windows, and what is written for what stands for them
pub record IsSewnFrom (text : List ℕ) (width : ℕ) (prefix : Word) (shift count replayed wires before : ℕ) (output : List ℕ) (told : Files) : Type 0 where
  pub model : Model
  pub instances : ℕ
  pub flat : IsFlat wide_limits text model instances
  pub few : length (shared_windows width shift model) ≤ most_windows
  pub parts : List Model
  pub are : HaveParts prefix (shared_windows width shift model) parts replayed told
  pub counted : count ≡ length (shared_windows width shift model)
  pub sewn : IsSewnInto model parts wires before output

-- the output is written, and all other files are as before
pub record HasSewn (input : Word) (width : ℕ) (prefix output : Word) (shift count replayed wires before : ℕ) (old new : Files) : Type 0 where
  pub written : List ℕ
  pub result : Holds old input (λ text. IsSewnFrom text width prefix shift count replayed wires before written old)
  pub files : new ≡ put_file output written old

abbrev pub SewDoes : Word → ℕ → Word → Word → ℕ → Option Files → Option Files → Done → Type 0
SewDoes input width prefix output shift old new (Sewn count replayed wires before) = IfTold old new (HasSewn input width prefix output shift count replayed wires before)
SewDoes input width prefix output shift old new _ = ⊥

-- the journal of the window of this number has accepted steps, which this ends before a verdict and before its end
pub record Stops (input : Word) (width : ℕ) (prefix : Word) (shift number : ℕ) (stop : Stop) (told : Files) : Type 0 where
  pub model : Model
  pub instances : ℕ
  pub flat : Holds told input (λ text. IsFlat wide_limits text model instances)
  pub place : ℕ
  pub window : Model
  pub there : slice_get (shared_windows width shift model) place ≡ Some window
  pub numbered : number ≡ place + 1
  pub steps : List Step
  pub taken : TakenFrom window (window_journal prefix number) steps (Some stop) told

-- the journal of a window has more than 2^62 bytes
abbrev pub IsLongWindow : Word → Option Files → Problem → Type 0
IsLongWindow prefix files problem =
    (problem ≡ Limit JournalLimit 4611686018427387905) × IfSome files (λ told. (number : ℕ) × Holds told (window_journal prefix number) (λ text. 2 ^ 62 < length text))

-- what `cut` finds of the input; or that a window's journal is longer than is read, or what ends its accepted steps
abbrev pub SewFinds : Word → ℕ → Word → ℕ → Option Files → Problem → Type 0
SewFinds input width prefix shift files (Window number stop) = IfSome files (Stops input width prefix shift number stop)
SewFinds input width prefix shift files (Limit quantity count) = CutFinds input width shift files (Limit quantity count) ⊎ IsLongWindow prefix files (Limit quantity count)
SewFinds input width prefix shift files problem = CutFinds input width shift files problem

-- the output holds a beginning of what is written for the input's text and its windows' journals
pub record BeginsSewn (input : Word) (width : ℕ) (prefix output : Word) (shift : ℕ) (old new : Files) : Type 0 where
  pub count : ℕ
  pub replayed : ℕ
  pub wires : ℕ
  pub before : ℕ
  pub written : List ℕ
  pub result : Holds old input (λ text. IsSewnFrom text width prefix shift count replayed wires before written old)
  pub kept : ℕ
  pub files : new ≡ put_file output (take kept written) old

-- the input can be cut, and no journal under the prefix is longer than is read
pub record CanBeSewn (input : Word) (width : ℕ) (prefix : Word) (shift : ℕ) (told : Files) : Type 0 where
  pub input_is : Holds told input (CanBeCut width shift)
  pub journals_are : (number : ℕ) → IfSome (file_of told (window_journal prefix number)) (λ text. length text ≤ 2 ^ 62)

-- the input can be cut, and no journal stands under the prefix
pub record HasNoJournal (input : Word) (width : ℕ) (prefix : Word) (shift : ℕ) (told : Files) : Type 0 where
  pub input_is : Holds told input (CanBeCut width shift)
  pub journals_are : (number : ℕ) → file_of told (window_journal prefix number) ≡ None

abbrev pub sew_contract : Word → ℕ → Word → Word → ℕ → Contract
sew_contract input width prefix output shift = record {
  Does = SewDoes input width prefix output shift;
  Finds = SewFinds input width prefix shift;
  Leaves = λ old new. IfTold old new (λ before after. (after ≡ before) ⊎ BeginsSewn input width prefix output shift before after);
  needs_files = true;
  IsGood = λ files. IsSomeAnd files (HasNoJournal input width prefix shift);
  IsJudged = λ files. IsSomeAnd files (CanBeSewn input width prefix shift);
  IsCompared = λ files. ⊥;
}
