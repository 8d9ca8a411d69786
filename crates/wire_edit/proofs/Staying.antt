-- Where no rule applies at a gate that a change doesn't touch, none applies afterwards.
use Rattle.std.proofs.Common.{◌≡◌, ◌≢◌, ℕ, zero, suc, ◌<◌, Bool, true, false, not, ◌&&◌, ◌||◌, ◌⊎◌, inl, inr, Option, Some, None, List, [], ◌∷◌, ◌++◌, length, map, refl, subst, sym, ◌∙◌, ap, arith}
use Rattle.std.specs.Prelude.{slice_get, slice_set, nat_lt, nat_eq, option_and_then}
use Rattle.std.proofs.lemmas.Bool.{both_ways, and_from, and_left, cases_lt, ltb-true, eq-eqb, and_parts, false_from_ne_true}
use Rattle.std.proofs.lemmas.Bool.Decides.{eqb_tells}
use Rattle.gate_net.proofs.Public.{drivers_redirected, node_at-moved, redirect_cases, redriven_node, with_node-other, with_node-there}
use Rattle.gate_net.specs.declared.Kind.TheVariants.{Not, Xor}
use Rattle.gate_net.specs.Meaning.{is_gate_family}
use Rattle.gate_net.specs.Net.{Node, Net, node_at, kind_in, kind_of, drivers_in, drivers_of, Reads, IsKind, IsObserved, IsLive, IsGate, IsWellFormed}
use Rattle.gate_net.specs.Values.{IsJunction}
use Rattle.gate_net.specs.Edits.{with_drivers, with_node, turned_to_not, with_pin, without, without_pin, constant_node, redirected, with_readers_moved, IsUnread}
use Rattle.wire_edit.specs.declared.steps.Step.TheVariants.{Const, Same, NoPins, OnePin, Twice, Twin, Dead}
use Rattle.wire_edit.specs.Tests.{is_present, gate_control, is_not_kind, is_xor_kind, kind_constant, family_in, is_junction, is_not, reads_several, is_gate, is_in_use, constant_of, constant_at, driver_at, is_repeated}
use Rattle.wire_edit.specs.Changes.{Change, append, remove, fix, readers, new_not, retire, to_not, changed, with_new_not, without_node}
use Rattle.wire_edit.specs.Inner.Changes.{CanChange, least_free}
use Rattle.wire_edit.specs.Steps.{rule_applies, is_not_at, same_some}
use Rattle.wire_edit.specs.Order.{node}
use Rattle.wire_edit.specs.Inner.Touched.{IsTouched}
use Rattle.wire_edit.proofs.Tested.{several_gate, junction_gate, not_gate, not_is, read_in_use, observed_in_use, used_by, same_at, junction_kind}
use Rattle.wire_edit.proofs.XorPins.{xor_pin}
use Rattle.wire_edit.proofs.Canonical.{least_is_free, least-there, gone-there}
use Rattle.wire_edit.proofs.Conditions.{same_kind}
use Rattle.wire_edit.proofs.Formed.{new_differs, gone_differs, control_not}
use Rattle.wire_edit.proofs.Ordering.{NoRules}
use Rattle.wire_edit.proofs.Working.{with_kinds, moved_kinds}
use Rattle.rm_base.proofs.Public.{front_stands, set_cases, set_other, stands_below}

-- no rule applies where there is no gate
pub no_gate_rules : (net : Net) (x : ℕ) → is_gate net x ≡ false → NoRules net x
no_gate_rules net x e = record {
  no_const = λ p. and_left (is_gate net x) _ e;
  no_same = λ p. and_left (reads_several net x) _ no_several;
  no_empty = and_left (is_junction net x) _ no_junction;
  no_single = and_left (is_junction net x) _ no_junction;
  no_twice = and_left (is_not net x) _ no_not;
  no_twin = λ other. and_left (is_not net x) _ no_not;
  no_dead = and_left (is_gate net x) _ e;
}
  where
    no_junction : is_junction net x ≡ false
    no_junction = false_from_ne_true (is_junction net x) (λ t. both_ways (is_gate net x) e (junction_gate net x t))

    no_not : is_not net x ≡ false
    no_not = false_from_ne_true (is_not net x) (λ t. both_ways (is_gate net x) e (not_gate net x t))

    no_several : reads_several net x ≡ false
    no_several = false_from_ne_true (reads_several net x) (λ t. both_ways (is_gate net x) e (several_gate net x t))

in_use_of : (net : Net) (x : ℕ) → NoRules net x → is_gate net x ≡ true → is_in_use net x ≡ true
in_use_of net x r g = at (is_gate net x) (is_in_use net x) g r.no_dead
  where
    at : (g t : Bool) → g ≡ true → (g && not t) ≡ false → t ≡ true
    at true true is e = refl
    at true false is e = cc
    at false t is e = cc

-- a gate whose surroundings stay
pub record Stays (net after : Net) (x : ℕ) : Type 0 where
  pub kind : kind_of after x ≡ kind_of net x
  pub drivers : drivers_of after x ≡ drivers_of net x
  pub used : is_gate net x ≡ true → is_in_use net x ≡ true → is_in_use after x ≡ true
  pub constants : (p d : ℕ) → Reads net x p d → constant_of after d ≡ constant_of net d
  pub nots : (d : ℕ) → is_not net x ≡ true → Reads net x 0 d → is_not after d ≡ is_not net d
  pub twins : (other d : ℕ) → other < x → is_not net x ≡ true → Reads net x 0 d → is_not after other ≡ true → Reads after other 0 d → (is_not net other ≡ true) × Reads net other 0 d

module _ (net after : Net) (x : ℕ) (r : NoRules net x) (s : Stays net after x) where
  junction_back : is_junction after x ≡ true → is_junction net x ≡ true
  junction_back e = ap (λ k. is_present (gate_control k)) (sym s.kind) ∙ e

  not_back : is_not after x ≡ true → is_not net x ≡ true
  not_back e = ap is_not_kind (sym s.kind) ∙ e

  gate_back : is_gate after x ≡ true → is_gate net x ≡ true
  gate_back e = ap (λ k. is_gate_family (family_in k)) (sym s.kind) ∙ e

  several_back : reads_several after x ≡ true → reads_several net x ≡ true
  several_back e = ap (λ k. is_present (gate_control k) || is_xor_kind k) (sym s.kind) ∙ e

  used : is_gate net x ≡ true → is_in_use net x ≡ true
  used g = in_use_of net x r g

  no_const : (p : ℕ) → rule_applies after (Const (node x) p) ≡ false
  no_const p = false_from_ne_true _ (λ e.
      let a : (is_gate after x ≡ true) × _ = and_parts (is_gate after x) _ e in
      let b : (is_in_use after x ≡ true) × (is_present (constant_at after x p) ≡ true) = and_parts (is_in_use after x) _ a.1 in
      let g : is_gate net x ≡ true = gate_back a.0 in
      both_ways _ (r.no_const p) (and_from (is_gate net x) _ g (and_from (is_in_use net x) _ (used g) (ap is_present (sym (constants (driver_at net x p) refl)) ∙ b.1))))
    where
      constants : (o : Option ℕ) → driver_at net x p ≡ o → constant_at after x p ≡ constant_at net x p
      constants None e =
          ap (λ ds. option_and_then (constant_of after) (slice_get ds p)) s.drivers ∙ ap (option_and_then (constant_of after)) e ∙ sym (ap (option_and_then (constant_of net)) e)
      constants (Some d) e =
          ap (λ ds. option_and_then (constant_of after) (slice_get ds p)) s.drivers ∙ ap (option_and_then (constant_of after)) e ∙ s.constants p d e ∙ sym (ap (option_and_then (constant_of net)) e)

  no_same : (p : ℕ) → rule_applies after (Same (node x) p) ≡ false
  no_same p = false_from_ne_true _ (λ e.
      let a : (reads_several after x ≡ true) × _ = and_parts (reads_several after x) _ e in
      let b : (is_in_use after x ≡ true) × (is_repeated (drivers_of after x) p ≡ true) = and_parts (is_in_use after x) _ a.1 in
      let j : reads_several net x ≡ true = several_back a.0 in
      both_ways _ (r.no_same p) (and_from (reads_several net x) _ j (and_from (is_in_use net x) _ (used (several_gate net x j)) (ap (λ ds. is_repeated ds p) (sym s.drivers) ∙ b.1))))

  no_empty : rule_applies after (NoPins (node x)) ≡ false
  no_empty = false_from_ne_true _ (λ e.
      let a : (is_junction after x ≡ true) × _ = and_parts (is_junction after x) _ e in
      let b : (is_in_use after x ≡ true) × (nat_eq (length (drivers_of after x)) 0 ≡ true) = and_parts (is_in_use after x) _ a.1 in
      let j : is_junction net x ≡ true = junction_back a.0 in
      both_ways _ r.no_empty (and_from (is_junction net x) _ j (and_from (is_in_use net x) _ (used (junction_gate net x j)) (ap (λ (ds : List ℕ). nat_eq (length ds) 0) (sym s.drivers) ∙ b.1))))

  no_single : rule_applies after (OnePin (node x)) ≡ false
  no_single = false_from_ne_true _ (λ e.
      let a : (is_junction after x ≡ true) × _ = and_parts (is_junction after x) _ e in
      let b : (is_in_use after x ≡ true) × (nat_eq (length (drivers_of after x)) 1 ≡ true) = and_parts (is_in_use after x) _ a.1 in
      let j : is_junction net x ≡ true = junction_back a.0 in
      both_ways _ r.no_single (and_from (is_junction net x) _ j (and_from (is_in_use net x) _ (used (junction_gate net x j)) (ap (λ (ds : List ℕ). nat_eq (length ds) 1) (sym s.drivers) ∙ b.1))))

  no_twice : rule_applies after (Twice (node x)) ≡ false
  no_twice = false_from_ne_true _ (λ e.
      let a : (is_not after x ≡ true) × _ = and_parts (is_not after x) _ e in
      let b : (is_in_use after x ≡ true) × (is_not_at after (driver_at after x 0) ≡ true) = and_parts (is_in_use after x) _ a.1 in
      let n : is_not net x ≡ true = not_back a.0 in
      both_ways _ r.no_twice (and_from (is_not net x) _ n (and_from (is_in_use net x) _ (used (not_gate net x n)) (sym (nots n (driver_at net x 0) refl) ∙ b.1))))
    where
      nots : is_not net x ≡ true → (o : Option ℕ) → driver_at net x 0 ≡ o → is_not_at after (driver_at after x 0) ≡ is_not_at net (driver_at net x 0)
      nots n None e = ap (λ ds. is_not_at after (slice_get ds 0)) s.drivers ∙ ap (is_not_at after) e ∙ sym (ap (is_not_at net) e)
      nots n (Some d) e = ap (λ ds. is_not_at after (slice_get ds 0)) s.drivers ∙ ap (is_not_at after) e ∙ s.nots d n e ∙ sym (ap (is_not_at net) e)

  no_twin : (other : ℕ) → rule_applies after (Twin (node x) (node other)) ≡ false
  no_twin other = false_from_ne_true _ (λ e.
      let a : (is_not after x ≡ true) × _ = and_parts (is_not after x) _ e in
      let b : (is_in_use after x ≡ true) × _ = and_parts (is_in_use after x) _ a.1 in
      let o : (is_not after other ≡ true) × _ = and_parts (is_not after other) _ b.1 in
      let l : (nat_lt other x ≡ true) × (same_some (driver_at after x 0) (driver_at after other 0) ≡ true) = and_parts (nat_lt other x) _ o.1 in
      let d : (d : ℕ) × ((driver_at after x 0 ≡ Some d) × (driver_at after other 0 ≡ Some d)) = same_at (driver_at after x 0) (driver_at after other 0) l.1 in
      let n : is_not net x ≡ true = not_back a.0 in
      let own : Reads net x 0 d.0 = ap (λ ds. slice_get ds 0) (sym s.drivers) ∙ d.1.0 in
      let t : (is_not net other ≡ true) × Reads net other 0 d.0 = s.twins other d.0 (ltb-true other x l.0) n own o.0 d.1.1 in
      both_ways _ (r.no_twin other) (and_from (is_not net x) _ n (and_from (is_in_use net x) _ (used (not_gate net x n))
      (and_from (is_not net other) _ t.0 (and_from (nat_lt other x) _ l.0 (same_there (driver_at net x 0) (driver_at net other 0) d.0 own t.1))))))
    where
      same_there : (o q : Option ℕ) (d : ℕ) → o ≡ Some d → q ≡ Some d → same_some o q ≡ true
      same_there None q d e f = cc
      same_there (Some y) None d e f = cc
      same_there (Some y) (Some z) d e f = let is : y ≡ z = cc in eq-eqb y z is

  no_dead : rule_applies after (Dead (node x)) ≡ false
  no_dead = false_from_ne_true _ (λ e.
      let a : (is_gate after x ≡ true) × (not (is_in_use after x) ≡ true) = and_parts (is_gate after x) _ e in
      let g : is_gate net x ≡ true = gate_back a.0 in
      let u : is_in_use after x ≡ true = s.used g (used g) in
      let wrong : not true ≡ true = ap not (sym u) ∙ a.1 in cc)

  pub stays_quiet : NoRules after x
  stays_quiet = record { no_const = no_const; no_same = no_same; no_empty = no_empty; no_single = no_single; no_twice = no_twice; no_twin = no_twin; no_dead = no_dead }

-- a Not in use whose driver is a constant has a rule
not_constant : (net : Net) → IsWellFormed net → (x : ℕ) → NoRules net x → is_not net x ≡ true → (b : Bool) → Reads net x 0 (constant_node b) → ⊥
not_constant net well x r n b reads =
    both_ways _ (r.no_const 0) (and_from (is_gate net x) _ (not_gate net x n) (and_from (is_in_use net x) _ (in_use_of net x r (not_gate net x n))
    (ap (λ o. is_present (option_and_then (constant_of net) o)) reads ∙ constant_there b)))
  where
    constant_there : (b : Bool) → is_present (constant_of net (constant_node b)) ≡ true
    constant_there true = ap (λ o. is_present (kind_constant (kind_in o))) well.constants.one_is
    constant_there false = ap (λ o. is_present (kind_constant (kind_in o))) well.constants.zero_is

still_used : (net after : Net) (x : ℕ) → ((y p : ℕ) → Reads net y p x → (q : ℕ) × Reads after y q x) → (IsObserved net x → IsObserved after x) → is_in_use net x ≡ true → is_in_use after x ≡ true
still_used net after x reads observed e = elim (used_by net x e) [
  | inl r ↦ let q : (q : ℕ) × Reads after r.0 q x = reads r.0 r.1.0 r.1.1 in read_in_use after x r.0 q.0 q.1
  | inr o ↦ observed_in_use after x (observed o)
]

-- ANOTHER GATE IN THE PLACE OF ONE
module _ (net : Net) (gate : ℕ) (new : Node) (g : IsGate net gate) (x : ℕ) (ne : x ≢ gate) where
  abbrev after : Net
  after = with_node net gate new

  other_drivers : (y : ℕ) → y ≢ gate → drivers_of after y ≡ drivers_of net y
  other_drivers y h = ap drivers_in (with_node-other net gate new y h)

  gate_drivers : drivers_of after gate ≡ new.drivers
  gate_drivers = ap drivers_in (with_node-there net gate new (record { kind = g.0; drivers = g.1.0.0 }) g.1.0.1)

  pub node_stays : ((p : ℕ) → Reads net gate p x → (q : ℕ) × (slice_get new.drivers q ≡ Some x)) → ((p d : ℕ) → Reads net x p d → constant_of after d ≡ constant_of net d) → ((d : ℕ) → is_not net x ≡ true → Reads net x 0 d → is_not after d ≡ is_not net d)
      → ((d : ℕ) → is_not net x ≡ true → Reads net x 0 d → is_not after gate ≡ true → slice_get new.drivers 0 ≡ Some d → (is_not net gate ≡ true) × Reads net gate 0 d) → Stays net after x
  node_stays kept constants nots twin = record {
    kind = ap kind_in (with_node-other net gate new x ne);
    drivers = other_drivers x ne;
    used = λ k u. still_used net after x reads (λ o. o) u;
    constants = constants;
    nots = nots;
    twins = twins;
  }
    where
      reads : (y p : ℕ) → Reads net y p x → (q : ℕ) × Reads after y q x
      reads y p r = elim (eqb_tells y gate) [
        | inl t ↦
            let q : (q : ℕ) × (slice_get new.drivers q ≡ Some x) = kept p (ap (λ z. slice_get (drivers_of net z) p) (sym t.1) ∙ r) in
            (q.0, ap (λ z. slice_get (drivers_of after z) q.0) t.1 ∙ ap (λ es. slice_get es q.0) gate_drivers ∙ q.1)
        | inr t ↦ (p, ap (λ es. slice_get es p) (other_drivers y t.1) ∙ r)
      ]

      twins : (other d : ℕ) → other < x → is_not net x ≡ true → Reads net x 0 d → is_not after other ≡ true → Reads after other 0 d → (is_not net other ≡ true) × Reads net other 0 d
      twins other d lt n own is r = elim (eqb_tells other gate) [
        | inl t ↦
            let here : slice_get new.drivers 0 ≡ Some d = ap (λ es. slice_get es 0) (sym gate_drivers) ∙ ap (λ z. slice_get (drivers_of after z) 0) (sym t.1) ∙ r in
            let both : (is_not net gate ≡ true) × Reads net gate 0 d = twin d n own (ap (is_not after) (sym t.1) ∙ is) here in
            (ap (is_not net) t.1 ∙ both.0, ap (λ z. slice_get (drivers_of net z) 0) t.1 ∙ both.1)
        | inr t ↦ (ap (λ o. is_not_kind (kind_in o)) (sym (with_node-other net gate new other t.1)) ∙ is, ap (λ es. slice_get es 0) (sym (other_drivers other t.1)) ∙ r)
      ]

-- other drivers at a gate
with_stays : (net : Net) (gate : ℕ) (ds : List ℕ) (g : IsGate net gate) (x : ℕ) → x ≢ gate → ((p : ℕ) → Reads net gate p x → (q : ℕ) × (slice_get ds q ≡ Some x)) → ((d : ℕ) → is_not net x ≡ true → Reads net x 0 d → is_not net gate ≡ true → slice_get ds 0 ≡ Some d → Reads net gate 0 d) → Stays net (with_drivers net gate ds) x
with_stays net gate ds g x ne kept twin =
    let new : Node = record { kind = g.0; drivers = ds } in
    let same = redriven_node net gate ds (record { kind = g.0; drivers = g.1.0.0 }) g.1.0.1 in
    let kinds : (d : ℕ) → kind_of (with_node net gate new) d ≡ kind_of net d = λ d. ap (λ (n : Net). kind_of n d) (sym same) ∙ with_kinds net gate ds g d in
    subst (λ (n : Net). Stays net n x) (sym same)
    (node_stays net gate new g x ne kept (λ p d r. ap kind_constant (kinds d)) (λ d n r. ap is_not_kind (kinds d))
    (λ d n own is there. let was : is_not net gate ≡ true = sym (ap is_not_kind (kinds gate)) ∙ is in (was, twin d n own was there)))

pub junction_no_not : (net : Net) (gate : ℕ) (c : Bool) → IsJunction net gate c → is_not net gate ≡ true → ⊥
junction_no_not net gate c j n = control_not j.0 c j.1.1 (same_kind net gate j.0 Not j.1.0 (not_is net gate n))

without_kept : (ds : List ℕ) (p q x : ℕ) → (slice_get ds p ≡ Some x → ⊥) → slice_get ds q ≡ Some x → (k : ℕ) × (slice_get (without ds p) k ≡ Some x)
without_kept [] p q x ne e = cc
without_kept (y ∷ ds) zero zero x ne e = absurd (ne e)
without_kept (y ∷ ds) zero (suc q) x ne e = (q, e)
without_kept (y ∷ ds) (suc p) zero x ne e = (0, e)
without_kept (y ∷ ds) (suc p) (suc q) x ne e = let rest : (k : ℕ) × (slice_get (without ds p) k ≡ Some x) = without_kept ds p q x ne e in (suc rest.0, rest.1)

set_kept : (ds : List ℕ) (p c q x : ℕ) → (slice_get ds p ≡ Some x → ⊥) → slice_get ds q ≡ Some x → slice_get (slice_set ds p c) q ≡ Some x
set_kept ds p c q x ne e = set_other ds p q c (λ is. ne (ap (slice_get ds) (sym is) ∙ e)) ∙ e

-- EACH CHANGE
not_moved : (from to : ℕ) (ds : List ℕ) → ((p : ℕ) → slice_get ds p ≡ Some from → ⊥) → map (redirected from to) ds ≡ ds
not_moved from to [] h = refl
not_moved from to (d ∷ ds) h =
    let rest : map (redirected from to) ds ≡ ds = not_moved from to ds (λ p e. h (suc p) e) in
    let here : redirected from to d ≡ d = elim (eqb_tells d from) [ inl t ↦ absurd (h 0 (ap Some t.1)) | inr t ↦ rw t.0 refl ] in
    cc

moved_kept : (from to : ℕ) (ds : List ℕ) (p x : ℕ) → x ≢ from → slice_get ds p ≡ Some x → slice_get (map (redirected from to) ds) p ≡ Some x
moved_kept from to [] p x ne e = cc
moved_kept from to (d ∷ ds) zero x ne e =
    let is : d ≡ x = cc in
    elim (eqb_tells d from) [ inl t ↦ absurd (ne (sym is ∙ t.1)) | inr t ↦ rw t.0 (ap Some is) ]
moved_kept from to (d ∷ ds) (suc p) x ne e = moved_kept from to ds p x ne e

below_two : (n : ℕ) → (1 < n → ⊥) → (n ≡ constant_node false) ⊎ (n ≡ constant_node true)
below_two zero h = inl refl
below_two (suc zero) h = inr refl
below_two (suc (suc n)) h = absurd (h (omega arith))

-- a Not without a rule has no constant as its driver
above_constants : (net : Net) → IsWellFormed net → (x : ℕ) → NoRules net x → is_not net x ≡ true → (d : ℕ) → Reads net x 0 d → 1 < d
above_constants net well x r n d own = elim (cases_lt 1 d) [
  | inl lt ↦ lt
  | inr le ↦ elim (below_two d (λ lt. omega (arith, lt, le))) [
    | inl z ↦ absurd (not_constant net well x r n false (own ∙ ap Some z))
    | inr o ↦ absurd (not_constant net well x r n true (own ∙ ap Some o))
  ]
]

module _ (net : Net) (from to : ℕ) (well : IsWellFormed net) (can : CanChange net (readers from to)) (x : ℕ) (r : NoRules net x) (untouched : IsTouched net (readers from to) x → ⊥) where
  abbrev moved : Net
  moved = with_readers_moved net from to

  moved_drivers : (y : ℕ) → drivers_of moved y ≡ map (redirected from to) (drivers_of net y)
  moved_drivers y = ap drivers_in (node_at-moved net from to y) ∙ drivers_redirected from to (node_at net y)

  pub moved_stays : Stays net moved x
  moved_stays = record {
    kind = moved_kinds net from to well can x;
    drivers = moved_drivers x ∙ not_moved from to (drivers_of net x) (λ p e. untouched (inr (inl (p, e))));
    used = λ k u. still_used net moved x
        (λ y p e. (p, ap (λ es. slice_get es p) (moved_drivers y) ∙ moved_kept from to (drivers_of net y) p x (λ is. untouched (inl is)) e))
        (λ o. (o.0, moved_kept from to net.observed o.0 x (λ is. untouched (inl is)) o.1)) u;
    constants = λ p d e. ap kind_constant (moved_kinds net from to well can d);
    nots = λ d n e. ap is_not_kind (moved_kinds net from to well can d);
    twins = twins;
  }
    where
      no_new : (other : ℕ) → is_not net x ≡ true → Reads net x 0 to → is_not net other ≡ true → Reads net other 0 from → ⊥
      no_new other n own is reads = untouched (inr (inr (above_constants net well x r n to own, ((n, own), (other, (is, reads))))))

      twins : (other d : ℕ) → other < x → is_not net x ≡ true → Reads net x 0 d → is_not moved other ≡ true → Reads moved other 0 d → (is_not net other ≡ true) × Reads net other 0 d
      twins other d lt n own is reads =
          let was : is_not net other ≡ true = ap is_not_kind (sym (moved_kinds net from to well can other)) ∙ is in
          elim (redirect_cases from to (drivers_of net other) 0 d (ap (λ es. slice_get es 0) (sym (moved_drivers other)) ∙ reads)) [
            | inl old ↦ (was, old)
            | inr new ↦ absurd (no_new other n (own ∙ ap Some new.0) was new.1)
          ]

module _ (net : Net) (driver : ℕ) (well : IsWellFormed net) (live : IsLive net driver) (x : ℕ) (untouched : IsTouched net (new_not driver) x → ⊥) where
  abbrev grown : Net
  grown = with_new_not net driver

  abbrev new : ℕ
  new = least_free net.nodes

  made : node_at grown new ≡ Some (record { kind = Not; drivers = driver ∷ [] })
  made = least-there net.nodes (record { kind = Not; drivers = driver ∷ [] })

  others : (y : ℕ) → y ≢ new → node_at grown y ≡ node_at net y
  others y h = (new_differs net driver).others y h

  not_new : x ≢ new
  not_new e =
      untouched (omega (arith, e), (ap (is_not grown) e ∙ ap (λ o. is_not_kind (kind_in o)) made, ap (λ y. slice_get (drivers_of grown y) 0) e ∙ ap (λ o. slice_get (drivers_in o) 0) made))

  live_apart : (d : ℕ) → node_at net d ≢ None → d ≢ new
  live_apart d alive e = alive (ap (node_at net) e ∙ least_is_free net.nodes)

  reads_apart : (y p z : ℕ) → Reads net y p z → y ≢ new
  reads_apart y p z reads e =
      let none : slice_get {X = ℕ} [] p ≡ Some z = ap (λ o. slice_get (drivers_in o) p) (sym (ap (node_at net) e ∙ least_is_free net.nodes)) ∙ reads in cc

  pub grown_stays : Stays net grown x
  grown_stays = record {
    kind = ap kind_in (others x not_new);
    drivers = ap drivers_in (others x not_new);
    used = λ k u. still_used net grown x (λ y p e. (p, ap (λ o. slice_get (drivers_in o) p) (others y (reads_apart y p x e)) ∙ e)) (λ o. o) u;
    constants = λ p d e. ap (λ o. kind_constant (kind_in o)) (others d (live_apart d (well.drivers_live x p d e)));
    nots = λ d n e. ap (λ o. is_not_kind (kind_in o)) (others d (live_apart d (well.drivers_live x 0 d e)));
    twins = twins;
  }
    where
      twins : (other d : ℕ) → other < x → is_not net x ≡ true → Reads net x 0 d → is_not grown other ≡ true → Reads grown other 0 d → (is_not net other ≡ true) × Reads net other 0 d
      twins other d lt n own is reads = elim (eqb_tells other new) [
        | inl t ↦
            let e : Some driver ≡ Some d = ap (λ o. slice_get (drivers_in o) 0) (sym made) ∙ ap (λ z. slice_get (drivers_of grown z) 0) (sym t.1) ∙ reads in
            absurd (untouched (omega (arith, lt, t.1), (ap (λ o. is_not_kind (kind_in o)) (others x not_new) ∙ n, ap (λ o. slice_get (drivers_in o) 0) (others x not_new) ∙ own ∙ sym e)))
        | inr t ↦ (ap (λ o. is_not_kind (kind_in o)) (sym (others other t.1)) ∙ is, ap (λ o. slice_get (drivers_in o) 0) (sym (others other t.1)) ∙ reads)
      ]

module _ (net : Net) (gate : ℕ) (unread : IsUnread net gate) (x : ℕ) (ne : x ≢ gate) (untouched : IsTouched net (retire gate) x → ⊥) where
  abbrev rest : Net
  rest = without_node net gate

  resting : (y : ℕ) → y ≢ gate → node_at rest y ≡ node_at net y
  resting y h = (gone_differs net gate).others y h

  pub rest_stays : Stays net rest x
  rest_stays = record {
    kind = ap kind_in (resting x ne);
    drivers = ap drivers_in (resting x ne);
    used = λ k u. still_used net rest x
        (λ y p e. (p, ap (λ o. slice_get (drivers_in o) p) (resting y (λ is. untouched (p, ap (λ z. slice_get (drivers_of net z) p) (sym is) ∙ e))) ∙ e)) (λ o. o) u;
    constants = λ p d e. ap (λ o. kind_constant (kind_in o)) (resting d (λ is. unread.unread x p (e ∙ ap Some is)));
    nots = λ d n e. ap (λ o. is_not_kind (kind_in o)) (resting d (λ is. unread.unread x 0 (e ∙ ap Some is)));
    twins = λ other d lt n own is reads.
        let apart : other ≢ gate = λ e. let wrong : false ≡ true = ap (λ o. is_not_kind (kind_in o)) (sym (ap (node_at rest) e ∙ gone-there net.nodes gate)) ∙ is in cc in
        (ap (λ o. is_not_kind (kind_in o)) (sym (resting other apart)) ∙ is, ap (λ o. slice_get (drivers_in o) 0) (sym (resting other apart)) ∙ reads);
  }

-- an Xor that becomes a Not
turned_stays : (net : Net) → IsWellFormed net → (gate p : ℕ) (is : IsKind net gate Xor) → p < length (drivers_of net gate) → (x : ℕ) → NoRules net x → (IsTouched net (to_not gate p) x → ⊥) → Stays net (turned_to_not net gate p) x
turned_stays net well gate p is within x r untouched =
    node_stays net gate new (Xor, (is, tt)) x (λ e. untouched (inl e)) (λ q e. without_kept (drivers_of net gate) p q x (λ here. untouched (inr (inl here))) e)
    (λ q d reads. constants d) nots (λ d n own now there. absurd (twin d n own there))
  where
    new : Node
    new = record { kind = Not; drivers = without (drivers_of net gate) p }

    after : Net
    after = turned_to_not net gate p

    here : node_at after gate ≡ Some new
    here = with_node-there net gate new _ is.1

    constants : (d : ℕ) → constant_of after d ≡ constant_of net d
    constants d = elim (eqb_tells d gate) [
      | inl t ↦ ap (constant_of after) t.1 ∙ ap (λ o. kind_constant (kind_in o)) here ∙ sym (ap (constant_of net) t.1 ∙ ap (λ o. kind_constant (kind_in o)) is.1)
      | inr t ↦ ap (λ o. kind_constant (kind_in o)) (with_node-other net gate new d t.1)
    ]

    nots : (d : ℕ) → is_not net x ≡ true → Reads net x 0 d → is_not after d ≡ is_not net d
    nots d n reads = elim (eqb_tells d gate) [
      | inl t ↦ absurd (untouched (inr (inr (inl (n, reads ∙ ap Some t.1)))))
      | inr t ↦ ap (λ o. is_not_kind (kind_in o)) (with_node-other net gate new d t.1)
    ]

    twin : (d : ℕ) → is_not net x ≡ true → Reads net x 0 d → slice_get (without (drivers_of net gate) p) 0 ≡ Some d → ⊥
    twin d n own there =
        let b : (b : ℕ) × Reads net gate p b = stands_below (drivers_of net gate) p within in
        let o = xor_pin net well gate p b.0 is b.1 in
        let first : slice_get (o.0 ∷ []) 0 ≡ Some d = ap (λ ds. slice_get ds 0) (sym o.1.left) ∙ there in
        let same : o.0 ≡ d = cc in
        untouched (inr (inr (inr (d, (above_constants net well x r n d own, (o.1.reads ∙ ap Some same, (n, own)))))))

pub untouched_quiet : (net : Net) (change : Change) → IsWellFormed net → CanChange net change → (x : ℕ) → NoRules net x → (IsTouched net change x → ⊥) → NoRules (changed net change) x
untouched_quiet net (append gate driver) well (j, can) x r untouched =
    stays_quiet net (with_pin net gate driver) x r (with_stays net gate (drivers_of net gate ++ driver ∷ []) (junction_kind net gate j.0 j.1) x untouched
    (λ p e. (p, front_stands (drivers_of net gate) (driver ∷ []) p x e)) (λ d n own is there. absurd (junction_no_not net gate j.0 j.1 is)))
untouched_quiet net (remove gate position) well (j, lt) x r untouched =
    stays_quiet net (without_pin net gate position) x r (with_stays net gate (without (drivers_of net gate) position) (junction_kind net gate j.0 j.1) x (λ e. untouched (inl e))
    (λ p e. without_kept (drivers_of net gate) position p x (λ here. untouched (inr here)) e) (λ d n own is there. absurd (junction_no_not net gate j.0 j.1 is)))
untouched_quiet net (fix gate position value) well (g, lt) x r untouched =
    stays_quiet net (with_drivers net gate (slice_set (drivers_of net gate) position (constant_node value))) x r
    (with_stays net gate (slice_set (drivers_of net gate) position (constant_node value)) g x (λ e. untouched (inl e))
    (λ p e. (p, set_kept (drivers_of net gate) position (constant_node value) p x (λ here. untouched (inr here)) e))
    (λ d n own is there. elim (set_cases (drivers_of net gate) position 0 (constant_node value) d there) [
      | inl e ↦ absurd (not_constant net well x r n value (own ∙ ap Some e))
      | inr old ↦ old
    ]))
untouched_quiet net (readers from to) well can x r untouched =
    stays_quiet net (with_readers_moved net from to) x r (moved_stays net from to well can x r untouched)
untouched_quiet net (new_not driver) well live x r untouched =
    stays_quiet net (with_new_not net driver) x r (grown_stays net driver well live x untouched)
untouched_quiet net (retire gate) well (g, unread) x r untouched = elim (eqb_tells x gate) [
  | inl t ↦ no_gate_rules (without_node net gate) x (ap (λ o. is_gate_family (family_in (kind_in o))) (ap (node_at (without_node net gate)) t.1 ∙ gone-there net.nodes gate))
  | inr t ↦ stays_quiet net (without_node net gate) x r (rest_stays net gate unread x t.1 untouched)
]
untouched_quiet net (to_not gate position) well (is, lt) x r untouched =
    stays_quiet net (turned_to_not net gate position) x r (turned_stays net well gate position is lt x r untouched)
