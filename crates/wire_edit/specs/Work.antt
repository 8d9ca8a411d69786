-- How many tidying steps may follow: a sum that falls with each.
use Rattle.std.specs.Prelude.{◌≡◌, ℕ, zero, suc, ◌+◌, ◌-◌, ◌*◌, ◌<◌, ◌≤◌, Bool, ◌&&◌, nat_lt, Option, Some, List, [], ◌∷◌, length, sum_by}
use Rattle.gate_net.specs.Net.{Node, Net, drivers_in, Reads, wire_count, gate_count, IsWellFormed}
use Rattle.wire_edit.specs.declared.steps.Step.{Step}
use Rattle.wire_edit.specs.declared.steps.Step.TheVariants.{Add, Fix, NewNot}
use Rattle.wire_edit.specs.Tests.{is_gate, is_in_use}
use Rattle.wire_edit.specs.Steps.{Applies, stepped}
use Rattle.wire_edit.specs.Refusals.{live_count}
use Rattle.wire_edit.specs.Order.{next_step}
use Rattle.rm_base.specs.Numbers.{one_if}

-- how many drivers are no constants, which are nodes 0 and 1
abbrev pub free_in : List ℕ → ℕ
free_in [] = 0
free_in (d ∷ ds) = one_if (nat_lt 1 d) + free_in ds

-- the pins that no constant drives
abbrev pub free_pins : Net → ℕ
free_pins net = sum_by (λ (o : Option Node). free_in (drivers_in o)) net.nodes

abbrev pub count_from : ℕ → ℕ → (ℕ → Bool) → ℕ
count_from first zero test = 0
count_from first (suc count) test = one_if (test first) + count_from (suc first) count test

abbrev pub is_used_gate : Net → ℕ → Bool
is_used_gate net x = is_gate net x && is_in_use net x

-- the gates in use
abbrev pub used_gates : Net → ℕ
used_gates net = count_from 0 (length net.nodes) (is_used_gate net)

abbrev pub work : Net → ℕ
work net = free_pins net + wire_count net + gate_count net + used_gates net

-- the step fixes a pin of that driver
abbrev pub FixesPin : Net → Step → ℕ → Type 0
FixesPin net (Fix gate position value) driver = Reads net gate.0 position driver
FixesPin net step driver = ⊥

abbrev pub MakesPin : Step → Type 0
MakesPin (Add gate node) = Unit {0}
MakesPin (NewNot node) = Unit {0}
MakesPin _ = ⊥

abbrev pub most_raised : Step → ℕ
most_raised (Add gate node) = 3
most_raised (NewNot node) = 4
most_raised _ = 0

-- each tidying step lowers it
abbrev pub TidyingEnds : Type 0
TidyingEnds = (net : Net) (step : Step) → IsWellFormed net → next_step net ≡ Some step → work (stepped net step) < work net

-- so does a fix of a pin that no constant drives, and no fix raises it
abbrev pub FixesEnd : Type 0
FixesEnd =
    (net : Net) (step : Step) (driver : ℕ) → IsWellFormed net → Applies net step → FixesPin net step driver → work (stepped net step) + one_if (nat_lt 1 driver) ≤ work net

-- an addition raises it by at most 3, and a new Not by at most 4
abbrev pub AddsRaise : Type 0
AddsRaise =
    (net : Net) (step : Step) → IsWellFormed net → Applies net step → MakesPin step → work (stepped net step) ≤ work net + most_raised step

-- at the beginning it is at most this
abbrev pub WorkIsBounded : Type 0
WorkIsBounded = (net : Net) → work net ≤ 2 * wire_count net + 2 * live_count net

-- how many pins a step makes
abbrev pub pins_made : Step → ℕ
pins_made (Add gate node) = 1
pins_made (NewNot node) = 1
pins_made _ = 0

-- no other step makes wires
abbrev pub WiresGrow : Type 0
WiresGrow = (net : Net) (step : Step) → IsWellFormed net → Applies net step → wire_count (stepped net step) ≤ wire_count net + pins_made step

-- so much room leaves a step for what comes next, and as much room after it; k is what may still be added
abbrev pub RoomForTidying : Type 0
RoomForTidying =
    (net : Net) (step : Step) (k room : ℕ) → IsWellFormed net → next_step net ≡ Some step → work net + k ≤ room → (0 < room) × (work (stepped net step) + k ≤ room - 1)

abbrev pub RoomForFixes : Type 0
RoomForFixes =
    (net : Net) (step : Step) (driver k room : ℕ) → IsWellFormed net → Applies net step → FixesPin net step driver → 1 < driver → work net + k ≤ room → (0 < room) × (work (stepped net step) + k ≤ room - 1)

abbrev pub RoomForAdding : Type 0
RoomForAdding =
    (net : Net) (step : Step) (k room : ℕ) → IsWellFormed net → Applies net step → MakesPin step → work net + (most_raised step + 1 + k) ≤ room → (0 < room) × (work (stepped net step) + k ≤ room - 1)
