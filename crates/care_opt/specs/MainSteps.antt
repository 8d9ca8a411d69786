-- Steps of main gates.
use Rattle.std.specs.Prelude.{List, [], ℕ, ◌<◌, ◌∷◌}
use Rattle.gate_net.specs.Net.{Net}
use Rattle.wire_edit.specs.Steps.{gate_of_step}
use Rattle.journal_text.specs.Runs.{AcceptedTo, steps_of}
use Rattle.journal_text.specs.declared.record.Record.{Record}
use Rattle.wire_edit.specs.Laws.{IsTidying}
use Rattle.wire_edit.specs.Removals.{IsRemoval}
use Rattle.wire_edit.specs.Steps.{Applies}
use Rattle.wire_edit.specs.declared.steps.Step.{Step}

-- a fix or a local step other than a new Not, at a gate below the bound
abbrev pub IsMainStep : ℕ → Step → Type 0
IsMainStep bound step = ((gate_of_step step).0 < bound) × IsRemoval step

abbrev pub AreMainSteps : ℕ → List Step → Type 0
AreMainSteps bound [] = Unit {0}
AreMainSteps bound (s ∷ steps) = IsMainStep bound s × AreMainSteps bound steps

-- accepted steps of main gates, one after another, lead from the one net to the other
pub record MainStepsTo (bound : ℕ) (net : Net) (records : List Record) (after : Net) : Type 0 where
  pub accepted : AcceptedTo net records after
  pub main : AreMainSteps bound (steps_of records)

-- no local rule but NewNot applies at a main gate
abbrev pub IsMainTidy : ℕ → Net → Type 0
IsMainTidy bound net = (step : Step) → IsTidying step → (gate_of_step step).0 < bound → Applies net step → ⊥
