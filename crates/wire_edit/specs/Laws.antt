-- Laws of the steps.
use Rattle.std.specs.Prelude.{◌≡◌, ℕ, Bool, false, not, Some, None, slice_get, ◌↔◌}
use Rattle.gate_net.specs.Net.{Net, IsWellFormed, source_count}
use Rattle.gate_net.specs.Values.{IsUndetected}
use Rattle.gate_net.specs.Edits.{last_pin}
use Rattle.gate_net.specs.Laws.{KeepsPlaces}
use Rattle.wire_edit.specs.declared.steps.Step.{Step}
use Rattle.wire_edit.specs.declared.steps.Step.TheVariants.{Add, Fix, NewNot}
use Rattle.wire_edit.specs.declared.room.Room.{Room}
use Rattle.wire_edit.specs.Tests.{is_gate, control_of}
use Rattle.wire_edit.specs.Steps.{Applies, stepped}
use Rattle.wire_edit.specs.Refusals.{IsAnswer}
use Rattle.wire_edit.specs.Order.{next_step, IsTidy}

-- the fault is undetected, by which a fix or an addition changes no observed value; local rules need nothing
abbrev pub IsSound : Net → Step → Type 0
IsSound net (Add gate node) = (c : Bool) → control_of net gate.0 ≡ Some c → IsUndetected (stepped net (Add gate node)) (last_pin net gate.0 (not c))
IsSound net (Fix gate position value) = IsUndetected net (record { gate = gate; position = position; value = value })
IsSound net _ = Unit {0}

-- observed places on one node stay on one node, and one on a source or a constant stays there
pub record KeepsObserved (net after : Net) : Type 0 where
  pub together : (j k : ℕ) → slice_get net.observed j ≡ slice_get net.observed k → slice_get after.observed j ≡ slice_get after.observed k
  pub stays : (k x : ℕ) → slice_get net.observed k ≡ Some x → is_gate net x ≡ false → slice_get after.observed k ≡ Some x

-- a step keeps the net well formed, acyclic among it
abbrev pub StepsKeepForm : Type 0
StepsKeepForm = (net : Net) (step : Step) → IsWellFormed net → Applies net step → IsWellFormed (stepped net step)

abbrev pub StepsKeepObserved : Type 0
StepsKeepObserved = (net : Net) (step : Step) → IsWellFormed net → Applies net step → KeepsObserved net (stepped net step)

-- a step adds and removes no source
abbrev pub StepsKeepSources : Type 0
StepsKeepSources = (net : Net) (step : Step) → IsWellFormed net → Applies net step → source_count (stepped net step) ≡ source_count net

-- every observed place keeps its value under every assignment
abbrev pub StepsKeepValues : Type 0
StepsKeepValues = (net : Net) (step : Step) → IsWellFormed net → Applies net step → IsSound net step → KeepsPlaces net (stepped net step)

-- a local rule but NewNot
abbrev pub IsTidying : Step → Type 0
IsTidying (Add gate node) = ⊥
IsTidying (Fix gate position value) = ⊥
IsTidying (NewNot node) = ⊥
IsTidying _ = Unit {0}

-- the next step may be made, and where there is none no such rule applies
abbrev pub NextApplies : Type 0
NextApplies = (net : Net) (step : Step) → next_step net ≡ Some step → IsTidying step × Applies net step

abbrev pub TidyMeans : Type 0
TidyMeans = (net : Net) → IsTidy net ↔ ((step : Step) → IsTidying step → Applies net step → ⊥)

-- a step that isn't refused may be made
abbrev pub AnswersApply : Type 0
AnswersApply = (net : Net) (room : Room) (step : Step) → IsAnswer net room step None → Applies net step
