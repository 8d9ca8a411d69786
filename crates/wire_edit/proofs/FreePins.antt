-- A tidy net has no pin that a constant drives, and no removal makes another pin free.
use Rattle.std.proofs.Common.{◌≡◌, ℕ, zero, suc, ◌+◌, ◌<◌, ◌≤◌, Bool, true, false, not, Option, Some, None, List, [], ◌∷◌, length, map, refl, sym, ◌∙◌, ap, arith}
use Rattle.std.specs.Prelude.{slice_get, slice_set, nat_lt, option_and_then}
use Rattle.std.specs.List.{sum_by}
use Rattle.std.proofs.lemmas.Bool.{and_from, both_ways, ltb-true, ltb-false, lt-ltb}
use Rattle.std.proofs.lemmas.List.Sums.{sum_by-cons}
use Rattle.rm_base.specs.declared.numbers.NodeId.{NodeId}
use Rattle.gate_net.specs.declared.Kind.{Kind}
use Rattle.gate_net.specs.declared.Family.{Family}
use Rattle.gate_net.specs.Meaning.{is_gate_kind}
use Rattle.gate_net.specs.Net.{Node, Net, node_at, kind_in, drivers_in, drivers_of, flatten_option, Reads, IsGate, IsWellFormed, wire_count}
use Rattle.gate_net.specs.Edits.{without, constant_node, node_redirected}
use Rattle.wire_edit.specs.declared.steps.Step.{Step}
use Rattle.wire_edit.specs.declared.steps.Step.TheVariants.{Add, Fix, NewNot, Const, Same, NoPins, OnePin, Twice, Twin, Dead}
use Rattle.wire_edit.specs.Tests.{is_gate, is_in_use, is_present, is_xor, constant_at, constant_of, family_of, kind_constant}
use Rattle.wire_edit.specs.Changes.{Change, append, remove, fix, readers, new_not, retire, to_not, changed}
use Rattle.wire_edit.specs.Inner.Changes.{CanChange}
use Rattle.wire_edit.specs.Steps.{Applies, change_of, constant_change, other_driver, stepped}
use Rattle.wire_edit.specs.Order.{IsTidy, node}
use Rattle.wire_edit.specs.Work.{free_in, free_pins}
use Rattle.wire_edit.proofs.Tested.{is_gate_there, junction_kind, tells, told}
use Rattle.wire_edit.proofs.Conditions.{applies_changes}
use Rattle.wire_edit.proofs.Ordering.{tidy_refuses}
use Rattle.wire_edit.proofs.Totals.{total_gone}
use Rattle.wire_edit.proofs.Working.{above_constants, constant_bound, turn_frees, with_free}
use Rattle.wire_edit.proofs.ConstantCases.{constant_cases, same_cases}
use Rattle.wire_edit.proofs.Plain.{plain_drivers}
use Rattle.wire_edit.proofs.Counting.{free_without, free_set, free_moved}
use Rattle.wire_edit.specs.Removals.{IsRemoval, ReadsNoConstants}
use Rattle.wire_edit.specs.Inner.Removals.{MakesNoPin}
use Rattle.rm_base.proofs.Public.{stands_below}
use Rattle.rm_base.specs.Numbers.{one_if}

-- A TIDY NET
-- a node with a pin is a gate
pub reader_gate : (net : Net) → IsWellFormed net → (y p x : ℕ) → Reads net y p x → IsGate net y
reader_gate net well y p x reads = at (node_at net y) refl
  where
    none_reads : slice_get {X = ℕ} [] p ≡ Some x → ⊥
    none_reads e = cc

    gate : (kind : Kind) (ds : List ℕ) → node_at net y ≡ Some (record { kind = kind; drivers = ds }) → (b : Bool) → is_gate_kind kind ≡ b → IsGate net y
    gate kind ds is true k = (kind, ((ds, is), told (is_gate_kind kind) k))
    gate kind ds is false k =
        let none : ds ≡ [] = plain_drivers net well y kind ds is (λ g. both_ways (is_gate_kind kind) k (tells (is_gate_kind kind) g)) in
        absurd (none_reads (ap (λ es. slice_get es p) (sym (ap drivers_in is ∙ none)) ∙ reads))

    at : (o : Option Node) → node_at net y ≡ o → IsGate net y
    at None is = absurd (none_reads (ap (λ o. slice_get (drivers_in o) p) (sym is) ∙ reads))
    at (Some n) is = gate n.kind n.drivers is (is_gate_kind n.kind) refl

pub constant_node_is : (net : Net) → IsWellFormed net → (b : Bool) → constant_of net (constant_node b) ≡ Some b
constant_node_is net well true = ap (λ o. kind_constant (kind_in o)) well.constants.one_is
constant_node_is net well false = ap (λ o. kind_constant (kind_in o)) well.constants.zero_is

pub below_two : (x : ℕ) → x ≤ 1 → (b : Bool) × (x ≡ constant_node b)
below_two zero le = (false, refl)
below_two (suc zero) le = (true, refl)
below_two (suc (suc n)) le = absurd (omega (arith, le))

pub tidy_reads_none : (net : Net) → IsWellFormed net → IsTidy net → ReadsNoConstants net
tidy_reads_none net well tidy y p x reads = at (nat_lt 1 x) refl
  where
    gate : is_gate net y ≡ true
    gate = is_gate_there net y (reader_gate net well y p x reads)

    clash : (b : Bool) → x ≡ constant_node b → (u : Bool) → is_in_use net y ≡ u → ⊥
    clash b is true used =
        let at : constant_at net y p ≡ Some b = ap (λ o. option_and_then (constant_of net) o) (reads ∙ ap Some is) ∙ constant_node_is net well b in
        let applies : Applies net (Const (node y) p) = and_from (is_gate net y) _ gate (and_from (is_in_use net y) _ used (ap is_present at)) in
        tidy_refuses net tidy (Const (node y) p) tt applies
    clash b is false used =
        let applies : Applies net (Dead (node y)) = and_from (is_gate net y) _ gate (ap not used) in
        tidy_refuses net tidy (Dead (node y)) tt applies

    at : (t : Bool) → nat_lt 1 x ≡ t → 1 < x
    at true e = ltb-true 1 x e
    at false e =
        let le : x ≤ 1 = ltb-false 1 x e in
        let c : (b : Bool) × (x ≡ constant_node b) = below_two x le in
        absurd (clash c.0 c.1 (is_in_use net y) refl)

pub free_all : (ds : List ℕ) → ((p x : ℕ) → slice_get ds p ≡ Some x → 1 < x) → free_in ds ≡ length ds
free_all [] h = refl
free_all (d ∷ ds) h =
    let first : nat_lt 1 d ≡ true = lt-ltb 1 d (h 0 d refl) in
    let rest : free_in ds ≡ length ds = free_all ds (λ p x e. h (suc p) x e) in
    rw (first, rest) (omega arith)

pub sum_same : (f g : Option Node → ℕ) (os : List (Option Node)) → ((k : ℕ) (o : Option Node) → slice_get os k ≡ Some o → f o ≡ g o) → sum_by f os ≡ sum_by g os
sum_same f g [] h = refl
sum_same f g (o ∷ os) h =
    let here : f o ≡ g o = h 0 o refl in
    let rest : sum_by f os ≡ sum_by g os = sum_same f g os (λ k p e. h (suc k) p e) in
    let a : sum_by f (o ∷ os) ≡ f o + sum_by f os = sum_by-cons f o os in
    let b : sum_by g (o ∷ os) ≡ g o + sum_by g os = sum_by-cons g o os in
    omega arith

-- where no constant drives a pin, all are free
pub all_free : (net : Net) → ReadsNoConstants net → free_pins net ≡ wire_count net
all_free net h = sum_same (λ o. free_in (drivers_in o)) (λ o. length (drivers_in o)) net.nodes each
  where
    each : (k : ℕ) (o : Option Node) → slice_get net.nodes k ≡ Some o → free_in (drivers_in o) ≡ length (drivers_in o)
    each k o there =
        let same : drivers_of net k ≡ drivers_in o = ap (λ q. drivers_in (flatten_option q)) there in
        free_all (drivers_in o) (λ p x e. h k p x (ap (λ ds. slice_get ds p) same ∙ e))

pub moved_free : (from to : ℕ) → 1 < from → (os : List (Option Node)) → sum_by (λ (o : Option Node). free_in (drivers_in o)) (map (node_redirected from to) os) ≤ sum_by (λ (o : Option Node). free_in (drivers_in o)) os
moved_free from to lt [] = omega arith
moved_free from to lt (o ∷ os) =
    let w : Option Node → ℕ = λ (q : Option Node). free_in (drivers_in q) in
    let rest : sum_by w (map (node_redirected from to) os) ≤ sum_by w os = moved_free from to lt os in
    let here : w (node_redirected from to o) ≤ w o = one o in
    let a : sum_by w (node_redirected from to o ∷ map (node_redirected from to) os) ≡ w (node_redirected from to o) + sum_by w (map (node_redirected from to) os) = sum_by-cons w (node_redirected from to o) (map (node_redirected from to) os) in
    let b : sum_by w (o ∷ os) ≡ w o + sum_by w os = sum_by-cons w o os in
    omega arith
  where
    one : (q : Option Node) → free_in (drivers_in (node_redirected from to q)) ≤ free_in (drivers_in q)
    one None = omega arith
    one (Some n) = free_moved from to n.drivers lt

pub change_frees : (net : Net) → IsWellFormed net → (change : Change) → CanChange net change → MakesNoPin change → free_pins (changed net change) ≤ free_pins net
change_frees net well (append gate driver) can none = omega (arith, none)
change_frees net well (new_not driver) can none = omega (arith, none)
change_frees net well (remove gate p) (j, lt) none =
    let a : _ ≡ _ = with_free net gate (without (drivers_of net gate) p) (junction_kind net gate j.0 j.1) in
    let f : _ ≤ _ = free_without (drivers_of net gate) p in
    omega arith
change_frees net well (to_not gate p) can none = turn_frees net gate p can
change_frees net well (fix gate p value) (g, lt) none =
    let d : (d : ℕ) × Reads net gate p d = stands_below (drivers_of net gate) p lt in
    let a : _ ≡ _ = with_free net gate (slice_set (drivers_of net gate) p (constant_node value)) g in
    let f : _ ≡ _ = free_set (drivers_of net gate) p (constant_node value) d.0 d.1 (constant_bound value) in
    omega arith
change_frees net well (readers from to) can none = moved_free from to (above_constants net well from can.0) net.nodes
change_frees net well (retire gate) (g, unread) none =
    let a : free_pins (changed net (retire gate)) + free_in g.1.0.0 ≡ free_pins net = total_gone (λ (o : Option Node). free_in (drivers_in o)) refl net gate (record { kind = g.0; drivers = g.1.0.0 }) g.1.0.1 in
    omega arith

pub constant_makes : (gate p other : ℕ) (f : Family) (constant : Option Bool) → MakesNoPin (constant_change gate p other f constant)
constant_makes gate p other f constant = constant_cases MakesNoPin gate p other f constant refl refl (λ to. refl)

pub removal_makes : (net : Net) (step : Step) → IsRemoval step → MakesNoPin (change_of net step)
removal_makes net (Add gate y) r = absurd r
removal_makes net (Fix gate position value) r = refl
removal_makes net (NewNot y) r = absurd r
removal_makes net (Const gate position) r = constant_makes gate.0 position (other_driver net gate.0 position) (family_of net gate.0) (constant_at net gate.0 position)
removal_makes net (Same gate position) r = same_cases MakesNoPin gate.0 position (is_xor net gate.0) refl refl
removal_makes net (NoPins gate) r = refl
removal_makes net (OnePin gate) r = refl
removal_makes net (Twice gate) r = refl
removal_makes net (Twin gate other) r = refl
removal_makes net (Dead gate) r = refl

-- no removal makes more pins free
pub removal_frees : (net : Net) (step : Step) → IsWellFormed net → Applies net step → IsRemoval step → free_pins (stepped net step) ≤ free_pins net
removal_frees net step well applies r = change_frees net well (change_of net step) (applies_changes net step well applies) (removal_makes net step r)

-- a fix takes one
pub fix_frees : (net : Net) (gate : NodeId) (p : ℕ) (value : Bool) (d : ℕ) → IsGate net gate.0 → Reads net gate.0 p d → 1 < d → free_pins (stepped net (Fix gate p value)) + 1 ≤ free_pins net
fix_frees net gate p value d g reads lt =
    let a : _ ≡ _ = with_free net gate.0 (slice_set (drivers_of net gate.0) p (constant_node value)) g in
    let f : _ ≡ _ = free_set (drivers_of net gate.0) p (constant_node value) d reads (constant_bound value) in
    let one : one_if (nat_lt 1 d) ≡ 1 = ap one_if (lt-ltb 1 d lt) in
    omega arith
