-- What is sewn of a model, and why there is nothing to sew, over files that may not be told.
use Rattle.std.specs.Prelude.{◌≡◌, ◌≤◌, ◌<◌, ◌+◌, ◌^◌, ◌⊎◌, ℕ, List, Option, Some, IfSome, length, slice_get}
use Rattle.rm_base.specs.Files.{Files}
use Rattle.rm_base.specs.Words.{Word}
use Rattle.rm_model.specs.declared.parts.Model.{Model}
use Rattle.wire_edit.specs.declared.steps.Step.{Step}
use Rattle.blif_format.specs.declared.refusal.Quantity.TheVariants.{Journal as JournalLimit}
use Rattle.accepted_steps.specs.Taken.{TakenFrom}
use Rattle.accepted_steps.specs.declared.stop.Stop.{Stop}
use Rattle.rambo_cli.specs.Files.{Holds}
use Rattle.window_fit.specs.Shared.{shared_windows}
use Rattle.rambo_cli.specs.Inner.Cut.{WindowsCause}
use Rattle.rambo_cli.specs.Sew.{HaveParts, IsLongWindow, IsSewnInto}
use Rattle.rambo_cli.specs.Windows.{most_windows, window_journal}
use Rattle.rambo_cli.specs.declared.problem.Problem.{Problem}
use Rattle.rambo_cli.specs.declared.problem.Problem.TheVariants.{Limit, Window}

-- of the window with this number
abbrev pub PartFinds : Model → Word → ℕ → Option Files → Problem → Type 0
PartFinds w prefix k files (Window number stop) = (number ≡ k) × IfSome files (λ told. (steps : List Step) × TakenFrom w (window_journal prefix k) steps (Some stop) told)
PartFinds w prefix k files (Limit quantity count) = IsLongWindow prefix files (Limit quantity count)
PartFinds w prefix k files _ = ⊥

-- of one of these windows
abbrev pub PartsFind : Word → List Model → Option Files → Problem → Type 0
PartsFind prefix windows files problem = (place : ℕ) × ((w : Model) × ((slice_get windows place ≡ Some w) × PartFinds w prefix (place + 1) files problem))

-- of a model whose windows these journals belong to
abbrev pub ModelFinds : Model → ℕ → Word → ℕ → Option Files → Problem → Type 0
ModelFinds m width prefix shift files problem = WindowsCause (length (shared_windows width shift m)) problem ⊎ PartsFind prefix (shared_windows width shift m) files problem

-- what is written for a model and what stands for its windows
pub record IsSewnOf (m : Model) (width : ℕ) (prefix : Word) (shift count replayed wires before : ℕ) (output : List ℕ) (told : Files) : Type 0 where
  pub few : length (shared_windows width shift m) ≤ most_windows
  pub parts : List Model
  pub are : HaveParts prefix (shared_windows width shift m) parts replayed told
  pub counted : count ≡ length (shared_windows width shift m)
  pub sewn : IsSewnInto m parts wires before output
