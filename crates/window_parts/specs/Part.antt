-- What stands for a window: what the steps of its journal lead to, or the window itself.
use Rattle.std.specs.Prelude.{◌≡◌, ◌⊎◌, ◌+◌, ◌<◌, ◌≤◌, ◌^◌, ℕ, Bool, true, false, List, [], None, Some, length}
use Rattle.rm_base.specs.Files.{Files, file_of}
use Rattle.rm_base.specs.Words.{Word}
use Rattle.rm_model.specs.declared.parts.Model.{Model}
use Rattle.gate_net.specs.Net.{Net}
use Rattle.wire_edit.specs.declared.steps.Step.{Step}
use Rattle.cover_decompose.specs.Count.{decomposed}
use Rattle.cover_decompose.specs.Limits.{most_pins}
use Rattle.graph_to_model.specs.NetModel.{model_of_net}
use Rattle.step_replay.specs.Rebuilding.{IsRebuilt}
use Rattle.accepted_steps.specs.Taken.{TakenFrom}

-- a window that a run could take
pub record IsWithinRun (w : Model) : Type 0 where
  pub inputs : length w.inputs ≤ 1024
  pub outputs : length w.outputs ≤ 4096
  pub signals : length w.inputs + length w.covers < 2 ^ 32
  pub wires : decomposed w ≤ most_pins

-- the model of the net to which the steps lead, up to where it has the fewest wires, and tidied
pub record ComesOf (w : Model) (steps : List Step) (part : Model) : Type 0 where
  pub count : ℕ
  pub net : Net
  pub rebuilt : IsRebuilt w steps count net
  pub made : part ≡ model_of_net w net

-- so do the accepted steps of the journal, which end at a verdict or at its end
pub record IsLedTo (w : Model) (journal : Word) (part : Model) (told : Files) : Type 0 where
  pub steps : List Step
  pub taken : TakenFrom w journal steps None told
  pub comes : ComesOf w steps part

-- a run could take the window, and its journal was replayed
pub record IsReplayed (w : Model) (journal : Word) (part : Model) (told : Files) : Type 0 where
  pub within : IsWithinRun w
  pub led : IsLedTo w journal part told

-- the file isn't there, or has no byte
abbrev pub HasNoByte : Word → Files → Type 0
HasNoByte name told = (file_of told name ≡ None) ⊎ (file_of told name ≡ Some [])

-- the window is over a limit, or its journal isn't there or has no byte
abbrev pub IsLeft : Model → Word → Files → Type 0
IsLeft w journal told = (IsWithinRun w → ⊥) ⊎ HasNoByte journal told

-- so it stays
pub record Stays (w : Model) (journal : Word) (part : Model) (told : Files) : Type 0 where
  pub same : part ≡ w
  pub left : IsLeft w journal told

abbrev pub IsPartOf : Model → Word → Model → Bool → Files → Type 0
IsPartOf w journal part true told = IsReplayed w journal part told
IsPartOf w journal part false told = Stays w journal part told
