-- Tidying ends.
use Rattle.std.proofs.Common.{◌≡◌, ℕ, ◌+◌, ◌<◌, ◌≤◌, Bool, true, false, not, ◌&&◌, Option, Some, None, [], ◌∷◌, length, refl, ◌∙◌, ap, arith}
use Rattle.std.specs.Prelude.{slice_get, nat_lt, nat_eq, if◌then◌else◌}
use Rattle.std.proofs.lemmas.Bool.{and_parts, ltb-true}
use Rattle.rm_base.specs.declared.numbers.NodeId.{NodeId}
use Rattle.gate_net.specs.Net.{Net, drivers_of, Reads, IsKind, IsWellFormed, wire_count}
use Rattle.gate_net.specs.declared.Kind.TheVariants.{Not}
use Rattle.gate_net.specs.declared.Family.{Family}
use Rattle.gate_net.specs.declared.Family.TheVariants.{Constant, Input, Junction, Parity}
use Rattle.gate_net.specs.Values.{same_bool}
use Rattle.gate_net.specs.Edits.{constant_node}
use Rattle.wire_edit.specs.declared.steps.Step.{Step}
use Rattle.wire_edit.specs.declared.steps.Step.TheVariants.{Add, Fix, NewNot, Const, Same, NoPins, OnePin, Twice, Twin, Dead}
use Rattle.wire_edit.specs.Tests.{is_gate, is_junction, is_not, is_xor, reads_several, is_in_use, control_of, family_of, other_position, constant_at, driver_at, second_driver}
use Rattle.wire_edit.specs.Changes.{Change, append, remove, fix, readers, new_not, retire, to_not, changed}
use Rattle.wire_edit.specs.Inner.Changes.{CanChange}
use Rattle.wire_edit.specs.Steps.{rule_applies, is_not_at, Applies, constant_change, same_change, other_driver, empty_node, or_zero, change_of, stepped}
use Rattle.wire_edit.specs.Order.{node, next_step, rule_at}
use Rattle.wire_edit.specs.Laws.{IsTidying}
use Rattle.wire_edit.specs.Work.{work, FixesPin, MakesPin, most_raised, pins_made}
use Rattle.wire_edit.proofs.Tested.{constant_read, gate_is, not_gate, read_in_use, one_in, xor_at_family}
use Rattle.wire_edit.proofs.XorPins.{xor_pin}
use Rattle.wire_edit.proofs.ConstantCases.{constant_cases, same_cases}
use Rattle.wire_edit.proofs.Conditions.{constant_apart, second_is, applies_changes}
use Rattle.wire_edit.proofs.Ordering.{NoRules, none_rules, next_at, next_applies, twin_gate}
use Rattle.wire_edit.proofs.Working.{turn_falls, turn_wires, remove_wires, fix_wires, remove_falls, fix_falls, append_raises, moved_wires, readers_fall, retire_falls, new_raises}
use Rattle.rm_base.specs.Numbers.{one_if}

-- the change falls, where readers move from a node in use to one that is in use or no gate
abbrev Falls : Net → Change → Type 0
Falls net change = work (changed net change) + 1 ≤ work net

to_constant : (net : Net) → IsWellFormed net → (from : ℕ) (b : Bool) → is_in_use net from ≡ true → CanChange net (readers from (constant_node b)) → Falls net (readers from (constant_node b))
to_constant net well from b used can =
    readers_fall net from (constant_node b) well can used (λ g. absurd (constant_apart net well.constants (constant_node b) (gate_is net (constant_node b) g) b refl))

to_node : (net : Net) → IsWellFormed net → (from to y p to' : ℕ) → is_in_use net from ≡ true → Reads net y p to' → to ≡ to' → CanChange net (readers from to) → Falls net (readers from to)
to_node net well from to y p to' used reads is can =
    readers_fall net from to well can used (λ g. ap (is_in_use net) is ∙ read_in_use net to' y p reads)

const_falls : (net : Net) → IsWellFormed net → (gate p : ℕ) → is_in_use net gate ≡ true → (f : Family) (constant : Option Bool) → family_of net gate ≡ f → constant_at net gate p ≡ constant → CanChange net (constant_change gate p (other_driver net gate p) f constant) → Falls net (constant_change gate p (other_driver net gate p) f constant)
const_falls net well gate p used f None is e can = remove_falls net gate p can
const_falls net well gate p used Input (Some b) is e can = remove_falls net gate p can
const_falls net well gate p used (Constant c) (Some b) is e can = remove_falls net gate p can
const_falls net well gate p used (Junction c) (Some b) is e can = at (same_bool b c) can
  where
    at : (t : Bool) → CanChange net (if t then readers gate (constant_node c) else remove gate p) → Falls net (if t then readers gate (constant_node c) else remove gate p)
    at true can = to_constant net well gate c used can
    at false can = remove_falls net gate p can
const_falls net well gate p used (Parity true) (Some b) is e can = to_constant net well gate (not b) used can
const_falls net well gate p used (Parity false) (Some true) is e can = turn_falls net gate p can
const_falls net well gate p used (Parity false) (Some false) is e can =
    let d : (d : ℕ) × (Reads net gate p d × _) = constant_read net gate p false e in
    let o = xor_pin net well gate p d.0 (xor_at_family net gate is) d.1.0 in
    to_node net well gate (other_driver net gate p) gate (other_position p) o.0 used o.1.reads (ap or_zero o.1.reads) can

same_falls : (net : Net) → IsWellFormed net → (gate p : ℕ) → is_in_use net gate ≡ true → (t : Bool) → CanChange net (same_change gate p t) → Falls net (same_change gate p t)
same_falls net well gate p used true can = to_constant net well gate false used can
same_falls net well gate p used false can = remove_falls net gate p can

empty_falls : (net : Net) → IsWellFormed net → (gate : ℕ) → is_in_use net gate ≡ true → (control : Option Bool) → CanChange net (readers gate (empty_node control)) → Falls net (readers gate (empty_node control))
empty_falls net well gate used None can = to_constant net well gate false used can
empty_falls net well gate used (Some c) can = to_constant net well gate (not c) used can

falls : (net : Net) (step : Step) → IsWellFormed net → IsTidying step → Applies net step → ((gate other : NodeId) → step ≡ Twin gate other → is_in_use net other.0 ≡ true) → Falls net (change_of net step)
falls net (Add gate node) well t e twin = absurd t
falls net (Fix gate position value) well t e twin = absurd t
falls net (NewNot node) well t e twin = absurd t
falls net (Const gate position) well t e twin =
    let can : CanChange net (change_of net (Const gate position)) = applies_changes net (Const gate position) well e in
    let a : (is_gate net gate.0 ≡ true) × _ = and_parts (is_gate net gate.0) _ e in
    let u : (is_in_use net gate.0 ≡ true) × _ = and_parts (is_in_use net gate.0) _ a.1 in
    const_falls net well gate.0 position u.0 (family_of net gate.0) (constant_at net gate.0 position) refl refl can
falls net (Same gate position) well t e twin =
    let a : (reads_several net gate.0 ≡ true) × _ = and_parts (reads_several net gate.0) _ e in
    let u : (is_in_use net gate.0 ≡ true) × _ = and_parts (is_in_use net gate.0) _ a.1 in
    same_falls net well gate.0 position u.0 (is_xor net gate.0) (applies_changes net (Same gate position) well e)
falls net (NoPins gate) well t e twin =
    let a : (is_junction net gate.0 ≡ true) × _ = and_parts (is_junction net gate.0) _ e in
    let u : (is_in_use net gate.0 ≡ true) × _ = and_parts (is_in_use net gate.0) _ a.1 in
    empty_falls net well gate.0 u.0 (control_of net gate.0) (applies_changes net (NoPins gate) well e)
falls net (OnePin gate) well t e twin =
    let a : (is_junction net gate.0 ≡ true) × _ = and_parts (is_junction net gate.0) _ e in
    let u : (is_in_use net gate.0 ≡ true) × (nat_eq (length (drivers_of net gate.0)) 1 ≡ true) = and_parts (is_in_use net gate.0) _ a.1 in
    let d : (d : ℕ) × (drivers_of net gate.0 ≡ d ∷ []) = one_in (drivers_of net gate.0) u.1 in
    let reads : Reads net gate.0 0 d.0 = ap (λ ds. slice_get ds 0) d.1 in
    to_node net well gate.0 (or_zero (driver_at net gate.0 0)) gate.0 0 d.0 u.0 reads (ap or_zero reads) (applies_changes net (OnePin gate) well e)
falls net (Twice gate) well t e twin =
    let a : (is_not net gate.0 ≡ true) × _ = and_parts (is_not net gate.0) _ e in
    let u : (is_in_use net gate.0 ≡ true) × (is_not_at net (driver_at net gate.0 0) ≡ true) = and_parts (is_in_use net gate.0) _ a.1 in
    let s : (inner : ℕ) × ((driver : ℕ) × (Reads net gate.0 0 inner × (IsKind net inner Not × (Reads net inner 0 driver × (second_driver net gate.0 ≡ Some driver))))) = second_is net gate.0 well u.1 in
    to_node net well gate.0 (or_zero (second_driver net gate.0)) s.0 0 s.1.0 u.0 s.1.1.1.1.0 (ap or_zero s.1.1.1.1.1) (applies_changes net (Twice gate) well e)
falls net (Twin gate other) well t e twin =
    let a : (is_not net gate.0 ≡ true) × _ = and_parts (is_not net gate.0) _ e in
    let u : (is_in_use net gate.0 ≡ true) × _ = and_parts (is_in_use net gate.0) _ a.1 in
    readers_fall net gate.0 other.0 well (applies_changes net (Twin gate other) well e) u.0 (λ g. twin gate other refl)
falls net (Dead gate) well t e twin = (retire_falls net gate.0 (applies_changes net (Dead gate) well e)).0

-- the lower Not is in use, since it would else go first
twin_used : (net : Net) (step : Step) → next_step net ≡ Some step → (gate other : NodeId) → step ≡ Twin gate other → is_in_use net other.0 ≡ true
twin_used net step e gate other is =
    let k : (k : ℕ) × (_ × ((rule_at net k ≡ Some step) × ((j : ℕ) → j < k → rule_at net j ≡ None))) = next_at net step e in
    let at : rule_at net k.0 ≡ Some (Twin gate other) = k.1.1.0 ∙ ap Some is in
    let own : gate.0 ≡ k.0 = twin_gate net k.0 gate other at in
    let applies : rule_applies net (Twin gate other) ≡ true = (next_applies net (Twin gate other) (e ∙ ap Some is)).1 in
    let a : (is_not net gate.0 ≡ true) × _ = and_parts (is_not net gate.0) _ applies in
    let u : (is_in_use net gate.0 ≡ true) × _ = and_parts (is_in_use net gate.0) _ a.1 in
    let o : (is_not net other.0 ≡ true) × _ = and_parts (is_not net other.0) _ u.1 in
    let l : (nat_lt other.0 gate.0 ≡ true) × _ = and_parts (nat_lt other.0 gate.0) _ o.1 in
    let below : other.0 < gate.0 = ltb-true other.0 gate.0 l.0 in
    let none : NoRules net other.0 = none_rules net other.0 (k.1.1.1 other.0 (let lt : other.0 < k.0 = rw own at below in lt)) in
    alive (is_gate net other.0) (is_in_use net other.0) (not_gate net other.0 o.0) none.no_dead
  where
    alive : (g t : Bool) → g ≡ true → (g && not t) ≡ false → t ≡ true
    alive true true is e = refl
    alive true false is e = cc
    alive false t is e = cc

pub tidying_ends : (net : Net) (step : Step) → IsWellFormed net → next_step net ≡ Some step → work (stepped net step) < work net
tidying_ends net step well e =
    let n : IsTidying step × Applies net step = next_applies net step e in
    let f : work (stepped net step) + 1 ≤ work net = falls net step well n.0 n.1 (twin_used net step e) in
    omega arith

pub fixes_end : (net : Net) (step : Step) (driver : ℕ) → IsWellFormed net → Applies net step → FixesPin net step driver → work (stepped net step) + one_if (nat_lt 1 driver) ≤ work net
fixes_end net (Add gate node) driver well e f = absurd f
fixes_end net (Fix gate position value) driver well e f = fix_falls net well gate.0 position value driver (applies_changes net (Fix gate position value) well e) f
fixes_end net (NewNot node) driver well e f = absurd f
fixes_end net (Const gate position) driver well e f = absurd f
fixes_end net (Same gate position) driver well e f = absurd f
fixes_end net (NoPins gate) driver well e f = absurd f
fixes_end net (OnePin gate) driver well e f = absurd f
fixes_end net (Twice gate) driver well e f = absurd f
fixes_end net (Twin gate other) driver well e f = absurd f
fixes_end net (Dead gate) driver well e f = absurd f

pub adds_raise : (net : Net) (step : Step) → IsWellFormed net → Applies net step → MakesPin step → work (stepped net step) ≤ work net + most_raised step
adds_raise net (Add gate node) well e m = (append_raises net gate.0 node.0 (applies_changes net (Add gate node) well e)).0
adds_raise net (Fix gate position value) well e m = absurd m
adds_raise net (NewNot node) well e m = (new_raises net well node.0 (applies_changes net (NewNot node) well e)).0
adds_raise net (Const gate position) well e m = absurd m
adds_raise net (Same gate position) well e m = absurd m
adds_raise net (NoPins gate) well e m = absurd m
adds_raise net (OnePin gate) well e m = absurd m
adds_raise net (Twice gate) well e m = absurd m
adds_raise net (Twin gate other) well e m = absurd m
adds_raise net (Dead gate) well e m = absurd m

-- the wires of a change
abbrev made : Change → ℕ
made (append gate driver) = 1
made (new_not driver) = 1
made _ = 0

wires_change : (net : Net) (change : Change) → IsWellFormed net → CanChange net change → wire_count (changed net change) ≤ wire_count net + made change
wires_change net (append gate driver) well can = let e : _ ≡ _ = (append_raises net gate driver can).1 in omega arith
wires_change net (remove gate position) well can = remove_wires net gate position can
wires_change net (fix gate position value) well can = fix_wires net gate position value can
wires_change net (readers from to) well can = let e : _ ≡ _ = moved_wires net from to well can in omega arith
wires_change net (new_not driver) well can = let e : _ ≡ _ = (new_raises net well driver can).1 in omega arith
wires_change net (to_not gate position) well can = turn_wires net gate position can
wires_change net (retire gate) well can = let e : _ ≤ _ = (retire_falls net gate can).1 in omega arith

made_by : (net : Net) (step : Step) → made (change_of net step) ≡ pins_made step
made_by net (Add gate node) = refl
made_by net (Fix gate position value) = refl
made_by net (NewNot node) = refl
made_by net (Const gate position) =
    constant_cases (λ change. made change ≡ 0) gate.0 position (other_driver net gate.0 position) (family_of net gate.0) (constant_at net gate.0 position) refl refl (λ to. refl)
made_by net (Same gate position) = same_cases (λ change. made change ≡ 0) gate.0 position (is_xor net gate.0) refl refl
made_by net (NoPins gate) = refl
made_by net (OnePin gate) = refl
made_by net (Twice gate) = refl
made_by net (Twin gate other) = refl
made_by net (Dead gate) = refl

pub wires_grow : (net : Net) (step : Step) → IsWellFormed net → Applies net step → wire_count (stepped net step) ≤ wire_count net + pins_made step
wires_grow net step well e =
    let le : wire_count (stepped net step) ≤ wire_count net + made (change_of net step) = wires_change net (change_of net step) well (applies_changes net step well e) in
    let is : made (change_of net step) ≡ pins_made step = made_by net step in
    omega arith
