-- Pins that no constant drives: fixes take them, and tidying takes all others.
use Rattle.std.specs.Prelude.{◌≡◌, ℕ, ◌+◌, ◌<◌, ◌≤◌}
use Rattle.rm_base.specs.declared.numbers.Fault.{Fault}
use Rattle.gate_net.specs.Net.{Net, Reads, IsWellFormed, wire_count}
use Rattle.gate_net.specs.Edits.{fixed}
use Rattle.wire_edit.specs.declared.steps.Step.{Step}
use Rattle.wire_edit.specs.declared.steps.Step.TheVariants.{Add, Fix, NewNot}
use Rattle.wire_edit.specs.Steps.{Applies, stepped}
use Rattle.wire_edit.specs.Order.{IsTidy}
use Rattle.wire_edit.specs.Work.{free_pins, FixesPin}
use Rattle.wire_edit.specs.Laws.{IsTidying}
use Rattle.wire_edit.specs.Tidying.{TidiesTo}

-- neither an addition nor a new Not
abbrev pub IsRemoval : Step → Type 0
IsRemoval (Add gate node) = ⊥
IsRemoval (NewNot node) = ⊥
IsRemoval _ = Unit {0}

-- a pin that no constant drives; the constants are nodes 0 and 1
abbrev pub HasFreePin : Net → Fault → Type 0
HasFreePin net fault = (driver : ℕ) × (Reads net fault.gate.0 fault.position driver × (1 < driver))

abbrev pub ReadsNoConstants : Net → Type 0
ReadsNoConstants net = (y position x : ℕ) → Reads net y position x → 1 < x

abbrev pub TidyingRemoves : Type 0
TidyingRemoves = (step : Step) → IsTidying step → IsRemoval step

-- no removal makes another pin free of constants
abbrev pub RemovalsFreeNone : Type 0
RemovalsFreeNone = (net : Net) (step : Step) → IsWellFormed net → Applies net step → IsRemoval step → free_pins (stepped net step) ≤ free_pins net

-- and a fix takes one
abbrev pub FixesTakeOne : Type 0
FixesTakeOne =
    (net : Net) (step : Step) (driver : ℕ) → IsWellFormed net → Applies net step → FixesPin net step driver → 1 < driver → free_pins (stepped net step) + 1 ≤ free_pins net

-- no constant drives a pin of a tidy net
abbrev pub TidyReadsNone : Type 0
TidyReadsNone = (net : Net) → IsWellFormed net → IsTidy net → ReadsNoConstants net

-- where no constant drives a pin, all wires are counted
abbrev pub AllAreFree : Type 0
AllAreFree = (net : Net) → ReadsNoConstants net → free_pins net ≡ wire_count net

-- a pin that no constant drives can be fixed
abbrev pub FreeFixesApply : Type 0
FreeFixesApply = (net : Net) (fault : Fault) → IsWellFormed net → HasFreePin net fault → Applies net (Fix fault.gate fault.position fault.value)

-- which leaves fewer wires once the net is tidied
abbrev pub FixesLowerWires : Type 0
FixesLowerWires =
    (net after : Net) (fault : Fault) → IsWellFormed net → ReadsNoConstants net → HasFreePin net fault → TidiesTo (fixed net fault) after → wire_count after < wire_count net
