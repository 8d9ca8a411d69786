-- Steps keep the value of every observed place.
use Rattle.std.proofs.Common.{◌≡◌, ◌≢◌, ℕ, zero, suc, ◌<◌, Bool, true, false, not, inl, inr, Some, List, [], ◌∷◌, length, map, refl, subst, sym, ◌∙◌, ap, arith}
use Rattle.std.specs.Prelude.{slice_get, nat_eq, nat_lt, if◌then◌else◌}
use Rattle.std.proofs.lemmas.Bool.Decides.{eqb_tells}
use Rattle.std.proofs.lemmas.Bool.{and_parts}
use Rattle.std.proofs.Math.Bool.{not-not}
use Rattle.gate_net.proofs.Public.{adds_keep, along_pins, fixes_keep, junction_member, moves_keep, not_is as parity_not, opposite_of, redriven_node, same_bool_false, same_bool_not, same_bool_refl, same_bool_true, value_at, values_unique, with_node-other, with_node-there, xor_of}
use Rattle.gate_net.specs.declared.Kind.{Kind}
use Rattle.gate_net.specs.declared.Kind.TheVariants.{Zero, One, Not, Xor}
use Rattle.gate_net.specs.declared.Family.{Family}
use Rattle.gate_net.specs.declared.Family.TheVariants.{Constant, Input, Junction, Parity}
use Rattle.gate_net.specs.Meaning.{controlling_in}
use Rattle.rm_base.specs.declared.numbers.Fault.{Fault}
use Rattle.gate_net.specs.Net.{Node, Net, node_at, drivers_in, drivers_of, Reads, IsKind, IsGate, IsAcyclic, IsWellFormed}
use Rattle.gate_net.specs.Values.{same_bool, family, family_value, junction, parity, turned, gate_value, node_value, AreGoodValues, controlling, IsJunction}
use Rattle.gate_net.specs.Edits.{with_drivers, with_node, turned_to_not, with_pin, fixed, without, without_pin, constant_node, with_readers_moved, IsUnread, DiffersAt}
use Rattle.gate_net.specs.Inner.Edits.{constant_kind}
use Rattle.gate_net.specs.Laws.{KeepsValues, KeepsPlaces}
use Rattle.wire_edit.specs.declared.steps.Step.{Step}
use Rattle.wire_edit.specs.declared.steps.Step.TheVariants.{Add, Fix, NewNot, Const, Same, NoPins, OnePin, Twice, Twin, Dead}
use Rattle.wire_edit.specs.Tests.{is_junction, is_not, is_xor, is_gate, reads_several, control_of, family_of, driver_at, constant_at, second_driver, is_in_use, is_repeated}
use Rattle.wire_edit.specs.Changes.{remove, readers, changed, with_new_not, without_node}
use Rattle.wire_edit.specs.Inner.Changes.{least_free}
use Rattle.wire_edit.specs.Steps.{is_not_at, Applies, constant_change, same_change, other_driver, empty_node, or_zero, change_of, stepped}
use Rattle.wire_edit.specs.Laws.{IsSound}
use Rattle.wire_edit.proofs.Tested.{present, junction_is_one, junction_at, not_at_family, xor_at_family, not_is, xor_is, several_junction, constant_read, repeated_at, one_in, none_in, same_at}
use Rattle.wire_edit.proofs.XorPins.{xor_pin, xor_same}
use Rattle.wire_edit.proofs.Canonical.{least_is_free}
use Rattle.wire_edit.proofs.Conditions.{constant_is, no_gate_family, second_is, applies_changes}
use Rattle.wire_edit.proofs.Formed.{changes_keep_form, new_differs, gone_differs, free_unread}
use Rattle.rm_base.proofs.Public.{bool_cases, map_agree, map_at, map_pointwise, stands_below}

-- the same values at the observed nodes are the same at the observed places
places : (v w : ℕ → Bool) (xs : List ℕ) → ((x : ℕ) → (k : ℕ) × (slice_get xs k ≡ Some x) → v x ≡ w x) → map v xs ≡ map w xs
places v w [] h = refl
places v w (x ∷ xs) h =
    let first : v x ≡ w x = h x (0, refl) in
    let rest : map v xs ≡ map w xs = places v w xs (λ y k. h y (suc k.0, k.1)) in
    cc

values_places : (net after : Net) → KeepsValues net after → after.observed ≡ net.observed → KeepsPlaces net after
values_places net after keeps same a v w good good' = rw same (places v w net.observed (λ x k. keeps a v w good good' x k))

-- a node whose function of its drivers stays as it was
node_keeps : (net : Net) (gate : ℕ) (n new : Node) → node_at net gate ≡ Some n → IsAcyclic (with_node net gate new) → ((a v : ℕ → Bool) → AreGoodValues net a v → gate_value new.kind (a gate) (map v new.drivers) ≡ gate_value n.kind (a gate) (map v n.drivers)) → KeepsPlaces net (with_node net gate new)
node_keeps net gate n new is acyclic same a v w good after =
    map_pointwise v w (values_unique (with_node net gate new) acyclic a v w kept after) net.observed
  where
    kept : AreGoodValues (with_node net gate new) a v
    kept x = elim (eqb_tells x gate) [
      | inl t ↦ rw t.1 (good gate ∙ ap (λ o. node_value o (a gate) (map v (drivers_in o))) is ∙ sym (same a v good)
          ∙ sym (ap (λ o. node_value o (a gate) (map v (drivers_in o))) (with_node-there net gate new n is)))
      | inr t ↦ good x ∙ sym (ap (λ o. node_value o (a x) (map v (drivers_in o))) (with_node-other net gate new x t.1))
    ]

redriven_keeps : (net : Net) (gate : ℕ) (n : Node) (drivers : List ℕ) → node_at net gate ≡ Some n → IsAcyclic (with_drivers net gate drivers) → ((a v : ℕ → Bool) → AreGoodValues net a v → gate_value n.kind (a gate) (map v drivers) ≡ gate_value n.kind (a gate) (map v n.drivers)) → KeepsPlaces net (with_drivers net gate drivers)
redriven_keeps net gate n drivers is acyclic same =
    let e = redriven_node net gate drivers n is in
    subst (λ (m : Net). KeepsPlaces net m) (sym e) (node_keeps net gate n (record n { drivers = drivers }) is (subst (λ (m : Net). IsAcyclic m) e acyclic) same)

-- a pin with the noncontrolling value, or that another one repeats, may go
junction_same : (c b : Bool) (bs : List Bool) → b ≡ c → junction c (b ∷ bs) ≡ c
junction_same c b bs e = rw (e, same_bool_refl c) refl

junction_other : (c b : Bool) (bs : List Bool) → b ≡ not c → junction c (b ∷ bs) ≡ junction c bs
junction_other c b bs e = rw (e, same_bool_not c) refl

junction-without : (c : Bool) (v : ℕ → Bool) (ds : List ℕ) (p d : ℕ) → slice_get ds p ≡ Some d → v d ≡ not c → junction c (map v (without ds p)) ≡ junction c (map v ds)
junction-without c v [] p d e h = refl
junction-without c v (x ∷ ds) zero d e h = let is : x ≡ d = cc in sym (junction_other c (v x) (map v ds) (rw is h))
junction-without c v (x ∷ ds) (suc p) d e h = ap (λ t. if same_bool (v x) c then c else t) (junction-without c v ds p d e h)

junction-repeated : (c : Bool) (v : ℕ → Bool) (ds : List ℕ) (q p d : ℕ) → q < p → slice_get ds q ≡ Some d → slice_get ds p ≡ Some d → junction c (map v (without ds p)) ≡ junction c (map v ds)
junction-repeated c v [] q p d lt e f = refl
junction-repeated c v (x ∷ ds) q zero d lt e f = absurd (omega arith)
junction-repeated c v (x ∷ ds) zero (suc p) d lt e f = elim (bool_cases (v x) c) [
  | inl same ↦ junction_same c (v x) (map v (without ds p)) same ∙ sym (junction_same c (v x) (map v ds) same)
  | inr other ↦ let is : x ≡ d = cc in ap (λ t. if same_bool (v x) c then c else t) (junction-without c v ds p d f (rw is at other))
]
junction-repeated c v (x ∷ ds) (suc q) (suc p) d lt e f = ap (λ t. if same_bool (v x) c then c else t) (junction-repeated c v ds q p d (omega arith) e f)

-- the value of a junction by its controlling value
junction_family : (f : Family) (c assigned : Bool) (bs : List Bool) → controlling_in f ≡ Some c → family_value f assigned bs ≡ junction c bs
junction_family Input c assigned bs e = cc
junction_family (Constant b) c assigned bs e = cc
junction_family (Junction b) c assigned bs e = let same : b ≡ c = cc in ap (λ x. junction x bs) same
junction_family (Parity i) c assigned bs e = cc

junction_value : (kind : Kind) (c assigned : Bool) (bs : List Bool) → controlling kind ≡ Some c → gate_value kind assigned bs ≡ junction c bs
junction_value kind = junction_family (family kind)

constant_value : (net : Net) (a v : ℕ → Bool) (x : ℕ) (b : Bool) → AreGoodValues net a v → IsKind net x (constant_kind b) → v x ≡ b
constant_value net a v x true good is = value_at net a v x One (map v (drivers_of net x)) is (good x)
constant_value net a v x false good is = value_at net a v x Zero (map v (drivers_of net x)) is (good x)

only_driver : (ds : List ℕ) (e d : ℕ) → ds ≡ e ∷ [] → slice_get ds 0 ≡ Some d → ds ≡ d ∷ []
only_driver ds e d is reads = let first : slice_get (e ∷ []) 0 ≡ Some d = rw is at reads in let same : e ≡ d = cc in is ∙ ap (λ x. x ∷ []) same

not_value : (net : Net) → IsWellFormed net → (a v : ℕ → Bool) (x d : ℕ) → AreGoodValues net a v → IsKind net x Not → Reads net x 0 d → v x ≡ not (v d)
not_value net well a v x d good is reads =
    let only : (e : ℕ) × (drivers_of net x ≡ e ∷ []) = well.nots_have_one x is in
    opposite_of net a v x d is (only_driver (drivers_of net x) only.0 d only.1 reads) good

junction_is : (net : Net) (a v : ℕ → Bool) (x : ℕ) (c : Bool) (j : IsJunction net x c) → AreGoodValues net a v → v x ≡ junction c (map v (drivers_of net x))
junction_is net a v x c j good = value_at net a v x j.0 (map v (drivers_of net x)) j.1.0 (good x) ∙ junction_value j.0 c (a x) (map v (drivers_of net x)) j.1.1

-- a pin of a junction goes
pin_gone : (net : Net) (gate p : ℕ) (c : Bool) → IsAcyclic (without_pin net gate p) → IsJunction net gate c → ((a v : ℕ → Bool) → AreGoodValues net a v → junction c (map v (without (drivers_of net gate) p)) ≡ junction c (map v (drivers_of net gate))) → KeepsPlaces net (without_pin net gate p)
pin_gone net gate p c after j same =
    redriven_keeps net gate _ (without (drivers_of net gate) p) j.1.0.1 after (λ a v good.
    junction_value j.0 c (a gate) (map v (without (drivers_of net gate) p)) j.1.1 ∙ same a v good ∙ sym (junction_value j.0 c (a gate) (map v (drivers_of net gate)) j.1.1)
    ∙ ap (λ o. gate_value j.0 (a gate) (map v (drivers_in o))) j.1.0.1)

-- readers move to a constant
to_value : (net : Net) → IsWellFormed net → (gate to : ℕ) (b : Bool) → to ≡ constant_node b → IsAcyclic (with_readers_moved net gate to) → ((a v : ℕ → Bool) → AreGoodValues net a v → v gate ≡ b) → KeepsPlaces net (with_readers_moved net gate to)
to_value net well gate to b e acyclic value =
    moves_keep net gate to acyclic (λ a v good. value a v good ∙ sym (ap v e ∙ constant_value net a v (constant_node b) b good (constant_is net well.constants b)))

-- the nets differ at one node, which nothing reads
apart_keeps : (net after : Net) (gate : ℕ) → IsAcyclic net → DiffersAt net after gate → IsUnread net gate → KeepsPlaces net after
apart_keeps net after gate acyclic d unread a v w good good' =
    rw d.observed (places v w net.observed (λ x k. same x (λ e. unread.unobserved (rw e at k))))
  where
    same : (y : ℕ) → y ≢ gate → v y ≡ w y
    same = along_pins net acyclic (λ y. y ≢ gate → v y ≡ w y) (λ y h ne.
        good y ∙ ap (node_value (node_at net y) (a y)) (map_agree v w (drivers_of net y) (λ p x reads. h p x reads (λ e. unread.unread y p (rw e at reads))))
        ∙ sym (ap (λ o. node_value o (a y) (map w (drivers_in o))) (d.others y ne)) ∙ sym (good' y))

junction_one : (c b : Bool) → junction c (b ∷ []) ≡ b
junction_one true true = refl
junction_one true false = refl
junction_one false true = refl
junction_one false false = refl

-- the only pin of a Not
pub not_pin : (net : Net) → IsWellFormed net → (gate p d : ℕ) → IsKind net gate Not → Reads net gate p d → Reads net gate 0 d
not_pin net well gate p d kind reads = let only : (e : ℕ) × (drivers_of net gate ≡ e ∷ []) = well.nots_have_one gate kind in at (drivers_of net gate) only.0 p only.1 reads
  where
    at : (ds : List ℕ) (e p : ℕ) → ds ≡ e ∷ [] → slice_get ds p ≡ Some d → slice_get ds 0 ≡ Some d
    at [] e p is there = cc
    at (x ∷ ds) e zero is there = there
    at (x ∷ []) e (suc p) is there = cc
    at (x ∷ y ∷ ds) e (suc p) is there = cc

module _ (net : Net) (well : IsWellFormed net) (gate p : ℕ) (g : is_gate net gate ≡ true) (b : Bool) (constant : constant_at net gate p ≡ Some b) where
  reads : (d : ℕ) × (Reads net gate p d × IsKind net d (constant_kind b))
  reads = let r : (d : ℕ) × (Reads net gate p d × (_ × IsKind net d (constant_kind b))) = constant_read net gate p b constant in (r.0, (r.1.0, r.1.1.1))

  at_junction : (c t : Bool) → IsJunction net gate c → same_bool b c ≡ t → IsAcyclic (changed net (if t then readers gate (constant_node c) else remove gate p)) → KeepsPlaces net (changed net (if t then readers gate (constant_node c) else remove gate p))
  at_junction c true is same acyclic =
      let e : b ≡ c = same_bool_true b c same in
      to_value net well gate (constant_node c) c refl acyclic (λ a v good.
      junction_is net a v gate c is good
      ∙ junction_member c (map v (drivers_of net gate)) p (map_at v (drivers_of net gate) p reads.0 reads.1.0 ∙ ap Some (constant_value net a v reads.0 b good reads.1.1 ∙ e)))
  at_junction c false is same acyclic =
      let e : b ≡ not c = same_bool_false b c same in
      pin_gone net gate p c acyclic is (λ a v good. junction-without c v (drivers_of net gate) p reads.0 reads.1.0 (constant_value net a v reads.0 b good reads.1.1 ∙ e))

  at_not : IsKind net gate Not → IsAcyclic (with_readers_moved net gate (constant_node (not b))) → KeepsPlaces net (with_readers_moved net gate (constant_node (not b)))
  at_not kind acyclic =
      to_value net well gate (constant_node (not b)) (not b) refl acyclic (λ a v good.
      not_value net well a v gate reads.0 good kind (not_pin net well gate p reads.0 kind reads.1.0) ∙ ap not (constant_value net a v reads.0 b good reads.1.1))

  -- an Xor is its other pin, turned by the constant
  xor_value : (kind : IsKind net gate Xor) (a v : ℕ → Bool) → AreGoodValues net a v → (let o = xor_pin net well gate p reads.0 kind reads.1.0 in parity false (map v (drivers_of net gate)) ≡ turned b (v o.0))
  xor_value kind a v good =
      let o = xor_pin net well gate p reads.0 kind reads.1.0 in
      o.1.value v ∙ ap (λ x. turned x (v o.0)) (constant_value net a v reads.0 b good reads.1.1)

  at_zero : b ≡ false → IsKind net gate Xor → IsAcyclic (with_readers_moved net gate (other_driver net gate p)) → KeepsPlaces net (with_readers_moved net gate (other_driver net gate p))
  at_zero none kind acyclic =
      let o = xor_pin net well gate p reads.0 kind reads.1.0 in
      moves_keep net gate (other_driver net gate p) acyclic (λ a v good.
      xor_of net a v gate kind good ∙ xor_value kind a v good ∙ ap (λ x. turned x (v o.0)) none ∙ ap v (sym (ap or_zero o.1.reads)))

  at_one : b ≡ true → IsKind net gate Xor → IsAcyclic (turned_to_not net gate p) → KeepsPlaces net (turned_to_not net gate p)
  at_one one kind acyclic =
      let o = xor_pin net well gate p reads.0 kind reads.1.0 in
      node_keeps net gate _ (record { kind = Not; drivers = without (drivers_of net gate) p }) kind.1 acyclic (λ a v good.
      ap (λ ds. parity true (map v ds)) o.1.left ∙ parity_not (v o.0) ∙ sym (ap (λ x. turned x (v o.0)) one) ∙ sym (xor_value kind a v good)
      ∙ ap (λ n. parity false (map v (drivers_in n))) kind.1)

  pub constant_keeps : (f : Family) → family_of net gate ≡ f → (t : Bool) → b ≡ t → IsAcyclic (changed net (constant_change gate p (other_driver net gate p) f (Some t))) → KeepsPlaces net (changed net (constant_change gate p (other_driver net gate p) f (Some t)))
  constant_keeps Input is t e acyclic = absurd (no_gate_family net gate Input g is refl)
  constant_keeps (Constant c) is t e acyclic = absurd (no_gate_family net gate (Constant c) g is refl)
  constant_keeps (Junction c) is t e acyclic =
      let at : IsAcyclic (changed net (if same_bool b c then readers gate (constant_node c) else remove gate p)) = rw e acyclic in
      rw (← e) (at_junction c (same_bool b c) (junction_at net gate c is) refl at)
  constant_keeps (Parity true) is t e acyclic =
      let at : IsAcyclic (with_readers_moved net gate (constant_node (not b))) = rw e acyclic in
      rw (← e) (at_not (not_at_family net gate is) at)
  constant_keeps (Parity false) is true e acyclic = at_one e (xor_at_family net gate is) acyclic
  constant_keeps (Parity false) is false e acyclic = at_zero e (xor_at_family net gate is) acyclic

-- a pin whose driver an earlier pin has
same_keeps : (net : Net) → IsWellFormed net → (gate q p d : ℕ) → reads_several net gate ≡ true → q < p → Reads net gate q d → Reads net gate p d → (t : Bool) → is_xor net gate ≡ t → IsAcyclic (changed net (same_change gate p t)) → KeepsPlaces net (changed net (same_change gate p t))
same_keeps net well gate q p d s lt first second true is acyclic =
    let kind : IsKind net gate Xor = xor_is net gate is in
    to_value net well gate (constant_node false) false refl acyclic (λ a v good. xor_of net a v gate kind good ∙ xor_same net well gate q p d kind lt first second v)
same_keeps net well gate q p d s lt first second false is acyclic =
    let c : (c : Bool) × ((control_of net gate ≡ Some c) × IsJunction net gate c) = junction_is_one net gate (several_junction net gate s is) in
    pin_gone net gate p c.0 acyclic c.1.1 (λ a v good. junction-repeated c.0 v (drivers_of net gate) q p d lt first second)

-- EACH STEP
keeps_from : (net : Net) (step : Step) → IsAcyclic (stepped net step) → IsWellFormed net → Applies net step → IsSound net step → KeepsPlaces net (stepped net step)
keeps_from net (Add gate node) acyclic well (j, (live, (ne, (apart, fresh)))) sound =
    let c : (c : Bool) × ((control_of net gate.0 ≡ Some c) × IsJunction net gate.0 c) = junction_is_one net gate.0 j in
    values_places net (with_pin net gate.0 node.0) (adds_keep net gate.0 node.0 c.1.1.0 c.0 c.1.1.1.0 c.1.1.1.1 (sound c.0 c.1.0)) refl
keeps_from net (Fix gate position value) acyclic well (g, lt) sound =
    let d : (d : ℕ) × (slice_get (drivers_of net gate.0) position ≡ Some d) = stands_below (drivers_of net gate.0) position lt in
    let fault : Fault = record { gate = gate; position = position; value = value } in
    values_places net (fixed net fault) (fixes_keep net fault d.0 well.constants d.1 sound) refl
keeps_from net (NewNot node) acyclic well e sound =
    apart_keeps net (with_new_not net node.0) (least_free net.nodes) well.acyclic (new_differs net node.0) (free_unread net (least_free net.nodes) well (least_is_free net.nodes))
keeps_from net (Const gate position) acyclic well e sound =
    let a : (is_gate net gate.0 ≡ true) × _ = and_parts (is_gate net gate.0) _ e in
    let u : (is_in_use net gate.0 ≡ true) × _ = and_parts (is_in_use net gate.0) _ a.1 in
    let k : (k : Bool) × (constant_at net gate.0 position ≡ Some k) = present (constant_at net gate.0 position) u.1 in
    let at : IsAcyclic (changed net (constant_change gate.0 position (other_driver net gate.0 position) (family_of net gate.0) (Some k.0))) = rw k.1 at acyclic in
    rw k.1 (constant_keeps net well gate.0 position a.0 k.0 k.1 (family_of net gate.0) refl k.0 refl at)
keeps_from net (Same gate position) acyclic well e sound =
    let a : (reads_several net gate.0 ≡ true) × _ = and_parts (reads_several net gate.0) _ e in
    let u : (is_in_use net gate.0 ≡ true) × (is_repeated (drivers_of net gate.0) position ≡ true) = and_parts (is_in_use net gate.0) _ a.1 in
    let r : (d : ℕ) × ((q : ℕ) × ((q < position) × ((slice_get (drivers_of net gate.0) q ≡ Some d) × (slice_get (drivers_of net gate.0) position ≡ Some d)))) = repeated_at (drivers_of net gate.0) position u.1 in
    same_keeps net well gate.0 r.1.0 position r.0 a.0 r.1.1.0 r.1.1.1.0 r.1.1.1.1 (is_xor net gate.0) refl acyclic
keeps_from net (NoPins gate) acyclic well e sound =
    let a : (is_junction net gate.0 ≡ true) × _ = and_parts (is_junction net gate.0) _ e in
    let u : (is_in_use net gate.0 ≡ true) × (nat_eq (length (drivers_of net gate.0)) 0 ≡ true) = and_parts (is_in_use net gate.0) _ a.1 in
    let c : (c : Bool) × ((control_of net gate.0 ≡ Some c) × IsJunction net gate.0 c) = junction_is_one net gate.0 a.0 in
    to_value net well gate.0 (empty_node (control_of net gate.0)) (not c.0) (ap empty_node c.1.0) acyclic (λ a v good.
    junction_is net a v gate.0 c.0 c.1.1 good ∙ ap (λ ds. junction c.0 (map v ds)) (none_in (drivers_of net gate.0) u.1))
keeps_from net (OnePin gate) acyclic well e sound =
    let a : (is_junction net gate.0 ≡ true) × _ = and_parts (is_junction net gate.0) _ e in
    let u : (is_in_use net gate.0 ≡ true) × (nat_eq (length (drivers_of net gate.0)) 1 ≡ true) = and_parts (is_in_use net gate.0) _ a.1 in
    let c : (c : Bool) × ((control_of net gate.0 ≡ Some c) × IsJunction net gate.0 c) = junction_is_one net gate.0 a.0 in
    let d : (d : ℕ) × (drivers_of net gate.0 ≡ d ∷ []) = one_in (drivers_of net gate.0) u.1 in
    let is : or_zero (driver_at net gate.0 0) ≡ d.0 = ap (λ ds. or_zero (slice_get ds 0)) d.1 in
    moves_keep net gate.0 (or_zero (driver_at net gate.0 0)) acyclic (λ a v good.
    junction_is net a v gate.0 c.0 c.1.1 good ∙ ap (λ ds. junction c.0 (map v ds)) d.1 ∙ junction_one c.0 (v d.0) ∙ ap v (sym is))
keeps_from net (Twice gate) acyclic well e sound =
    let a : (is_not net gate.0 ≡ true) × _ = and_parts (is_not net gate.0) _ e in
    let u : (is_in_use net gate.0 ≡ true) × (is_not_at net (driver_at net gate.0 0) ≡ true) = and_parts (is_in_use net gate.0) _ a.1 in
    let s : (inner : ℕ) × ((driver : ℕ) × (Reads net gate.0 0 inner × (IsKind net inner Not × (Reads net inner 0 driver × (second_driver net gate.0 ≡ Some driver))))) = second_is net gate.0 well u.1 in
    moves_keep net gate.0 (or_zero (second_driver net gate.0)) acyclic (λ sources v good.
    not_value net well sources v gate.0 s.0 good (not_is net gate.0 a.0) s.1.1.0 ∙ ap not (not_value net well sources v s.0 s.1.0 good s.1.1.1.0 s.1.1.1.1.0) ∙ not-not (v s.1.0)
    ∙ ap v (sym (ap or_zero s.1.1.1.1.1)))
keeps_from net (Twin gate other) acyclic well e sound =
    let a : (is_not net gate.0 ≡ true) × _ = and_parts (is_not net gate.0) _ e in
    let u : (is_in_use net gate.0 ≡ true) × _ = and_parts (is_in_use net gate.0) _ a.1 in
    let o : (is_not net other.0 ≡ true) × _ = and_parts (is_not net other.0) _ u.1 in
    let l : (nat_lt other.0 gate.0 ≡ true) × _ = and_parts (nat_lt other.0 gate.0) _ o.1 in
    let d : (d : ℕ) × ((driver_at net gate.0 0 ≡ Some d) × (driver_at net other.0 0 ≡ Some d)) = same_at (driver_at net gate.0 0) (driver_at net other.0 0) l.1 in
    moves_keep net gate.0 other.0 acyclic (λ sources v good. not_value net well sources v gate.0 d.0 good (not_is net gate.0 a.0) d.1.0 ∙ sym (not_value net well sources v other.0 d.0 good (not_is net other.0 o.0) d.1.1))
keeps_from net (Dead gate) acyclic well e sound =
    let can : IsGate net gate.0 × IsUnread net gate.0 = applies_changes net (Dead gate) well e in
    apart_keeps net (without_node net gate.0) gate.0 well.acyclic (gone_differs net gate.0) can.1

pub steps_keep_values : (net : Net) (step : Step) → IsWellFormed net → Applies net step → IsSound net step → KeepsPlaces net (stepped net step)
steps_keep_values net step well applies sound =
    let after : IsWellFormed (stepped net step) = changes_keep_form net (change_of net step) well (applies_changes net step well applies) in
    keeps_from net step after.acyclic well applies sound
