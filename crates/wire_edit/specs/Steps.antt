-- The steps: when each may be made, and the net to which it leads.
use Rattle.std.specs.Prelude.{◌≡◌, ◌≢◌, ℕ, ◌<◌, Bool, true, false, not, ◌&&◌, Option, Some, None, length, nat_eq, nat_lt, if◌then◌else◌}
use Rattle.gate_net.specs.Net.{Net, drivers_of}
use Rattle.gate_net.specs.Values.{same_bool}
use Rattle.gate_net.specs.declared.Family.{Family}
use Rattle.gate_net.specs.declared.Family.TheVariants.{Constant, Input, Junction, Parity}
use Rattle.gate_net.specs.Paths.{Reaches}
use Rattle.gate_net.specs.Edits.{constant_node}
use Rattle.wire_edit.specs.Changes.{Change, append, remove, fix, readers, new_not, retire, to_not, changed}
use Rattle.wire_edit.specs.declared.steps.Step.{Step}
use Rattle.wire_edit.specs.declared.steps.Step.TheVariants.{Add, Fix, NewNot, Const, Same, NoPins, OnePin, Twice, Twin, Dead}
use Rattle.wire_edit.specs.Tests.{is_present, is_live, is_junction, is_not, is_xor, is_gate, reads_several, control_of, family_of, other_position, driver_at, constant_at, second_driver, is_among, is_in_use, is_repeated}
use Rattle.rm_base.specs.declared.numbers.NodeId.{NodeId}

-- the gate at which a step is made; of a new Not, the node that it reads
abbrev pub gate_of_step : Step → NodeId
gate_of_step (Add gate node) = gate
gate_of_step (Fix gate position value) = gate
gate_of_step (NewNot node) = node
gate_of_step (Const gate position) = gate
gate_of_step (Same gate position) = gate
gate_of_step (NoPins gate) = gate
gate_of_step (OnePin gate) = gate
gate_of_step (Twice gate) = gate
gate_of_step (Twin gate other) = gate
gate_of_step (Dead gate) = gate

abbrev pub is_not_at : Net → Option ℕ → Bool
is_not_at net None = false
is_not_at net (Some x) = is_not net x

abbrev pub same_some : Option ℕ → Option ℕ → Bool
same_some (Some x) (Some y) = nat_eq x y
same_some _ _ = false

-- whether the condition of a local rule is met
abbrev pub rule_applies : Net → Step → Bool
rule_applies net (Add gate node) = false
rule_applies net (Fix gate position value) = false
rule_applies net (NewNot node) = is_live net node.0
rule_applies net (Const gate position) = is_gate net gate.0 && (is_in_use net gate.0 && is_present (constant_at net gate.0 position))
rule_applies net (Same gate position) = reads_several net gate.0 && (is_in_use net gate.0 && is_repeated (drivers_of net gate.0) position)
rule_applies net (NoPins gate) = is_junction net gate.0 && (is_in_use net gate.0 && nat_eq (length (drivers_of net gate.0)) 0)
rule_applies net (OnePin gate) = is_junction net gate.0 && (is_in_use net gate.0 && nat_eq (length (drivers_of net gate.0)) 1)
rule_applies net (Twice gate) = is_not net gate.0 && (is_in_use net gate.0 && is_not_at net (driver_at net gate.0 0))
rule_applies net (Twin gate other) =
    is_not net gate.0 && (is_in_use net gate.0 && (is_not net other.0 && (nat_lt other.0 gate.0 && same_some (driver_at net gate.0 0) (driver_at net other.0 0))))
rule_applies net (Dead gate) = is_gate net gate.0 && not (is_in_use net gate.0)

-- whether the condition of a step is met
abbrev pub Applies : Net → Step → Type 0
Applies net (Add gate node) =
    (is_junction net gate.0 ≡ true) × ((is_live net node.0 ≡ true) × ((node.0 ≢ gate.0) × ((Reaches net gate.0 node.0 → ⊥) × (is_among node.0 (drivers_of net gate.0) ≡ false))))
Applies net (Fix gate position value) = (is_gate net gate.0 ≡ true) × (position < length (drivers_of net gate.0))
Applies net step = rule_applies net step ≡ true

abbrev pub or_zero : Option ℕ → ℕ
or_zero None = 0
or_zero (Some x) = x

-- the driver of the other of two pins
abbrev pub other_driver : Net → ℕ → ℕ → ℕ
other_driver net gate position = or_zero (driver_at net gate (other_position position))

-- of a pin that reads a constant: by the controlling value of an And or an Or, at a Not, and at an Xor whose other pin has that driver
abbrev pub constant_change : ℕ → ℕ → ℕ → Family → Option Bool → Change
constant_change gate position other family None = remove gate position
constant_change gate position other (Junction c) (Some b) = if same_bool b c then readers gate (constant_node c) else remove gate position
constant_change gate position other (Parity true) (Some b) = readers gate (constant_node (not b))
constant_change gate position other (Parity false) (Some false) = readers gate other
constant_change gate position other (Parity false) (Some true) = to_not gate position
constant_change gate position other Input (Some b) = remove gate position
constant_change gate position other (Constant c) (Some b) = remove gate position

-- of a pin whose driver an earlier pin has: whether at an Xor
abbrev pub same_change : ℕ → ℕ → Bool → Change
same_change gate position true = readers gate (constant_node false)
same_change gate position false = remove gate position

-- what an And or an Or without pins gives
abbrev pub empty_node : Option Bool → ℕ
empty_node None = 0
empty_node (Some c) = constant_node (not c)

-- the change that the step makes
abbrev pub change_of : Net → Step → Change
change_of net (Add gate node) = append gate.0 node.0
change_of net (Fix gate position value) = fix gate.0 position value
change_of net (NewNot node) = new_not node.0
change_of net (Const gate position) = constant_change gate.0 position (other_driver net gate.0 position) (family_of net gate.0) (constant_at net gate.0 position)
change_of net (Same gate position) = same_change gate.0 position (is_xor net gate.0)
change_of net (NoPins gate) = readers gate.0 (empty_node (control_of net gate.0))
change_of net (OnePin gate) = readers gate.0 (or_zero (driver_at net gate.0 0))
change_of net (Twice gate) = readers gate.0 (or_zero (second_driver net gate.0))
change_of net (Twin gate other) = readers gate.0 other.0
change_of net (Dead gate) = retire gate.0

-- the net to which a step leads
abbrev pub stepped : Net → Step → Net
stepped net step = changed net (change_of net step)
