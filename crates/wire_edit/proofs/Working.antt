-- Each tidying step lowers the work that is left.
use Rattle.std.proofs.Common.{◌≡◌, ◌≢◌, ℕ, zero, suc, ◌+◌, ◌*◌, ◌<◌, ◌≤◌, Bool, true, false, ◌⊎◌, inl, inr, Option, Some, None, List, [], ◌∷◌, ◌++◌, length, map, refl, sym, ◌∙◌, ap, arith}
use Rattle.std.specs.Prelude.{T, slice_get, slice_set, nat_lt, if◌then◌else◌}
use Rattle.std.specs.List.{sum_by}
use Rattle.std.proofs.lemmas.Bool.{and_from, and_parts, false_from_ne_true}
use Rattle.std.proofs.lemmas.Bool.Decides.{eqb_tells}
use Rattle.std.proofs.lemmas.List.Sums.{sum_by-cons}
use Rattle.std.proofs.lemmas.List.{length_push}
use Rattle.gate_net.proofs.Public.{drivers_redirected, node_at-moved, node_at-other, node_at-there, redirect_cases, redriven_node, with_node-other, with_node-there}
use Rattle.gate_net.specs.declared.Kind.{Kind}
use Rattle.gate_net.specs.declared.Kind.TheVariants.{Not, Xor}
use Rattle.gate_net.specs.Meaning.{is_gate_family, is_gate_kind}
use Rattle.gate_net.specs.Net.{Node, Net, node_at, kind_in, kind_of, drivers_in, drivers_of, flatten_option, Reads, IsObserved, IsLive, IsGate, IsGateKind, IsWellFormed, gate_in, wire_count, gate_count}
use Rattle.gate_net.specs.Edits.{with_drivers, with_node, with_pin, turned_to_not, without, without_pin, constant_node, redirected, node_redirected, with_readers_moved, IsUnread}
use Rattle.wire_edit.specs.Tests.{family_in, is_gate, is_in_use, live_in}
use Rattle.wire_edit.specs.Inner.Tests.{gate_weight}
use Rattle.wire_edit.specs.Changes.{append, remove, fix, readers, retire, to_not, changed, with_new_not, without_node}
use Rattle.wire_edit.specs.Inner.Changes.{CanChange, least_free}
use Rattle.wire_edit.specs.Refusals.{live_count}
use Rattle.wire_edit.specs.Work.{free_in, free_pins, count_from, is_used_gate, used_gates, work}
use Rattle.wire_edit.proofs.Tested.{gate_is, is_gate_there, read_in_use, observed_in_use, used_by, junction_kind}
use Rattle.wire_edit.proofs.Totals.{total_node, total_map, total_least, total_gone}
use Rattle.wire_edit.proofs.Canonical.{least_is_free, least-there, gone-there}
use Rattle.wire_edit.proofs.Plain.{some_none}
use Rattle.wire_edit.proofs.Conditions.{constant_apart}
use Rattle.wire_edit.proofs.Formed.{without_before, new_differs, gone_differs, free_unread}
use Rattle.wire_edit.proofs.Ordering.{gate_below}
use Rattle.wire_edit.proofs.Counting.{at_most_one, count_mono, count_strict, count_more, count_beyond, count_places, free_length, free_without, length_without, free_set, free_last, free_moved, length_moved}
use Rattle.rm_base.proofs.Public.{last_cases, length_set, set_cases}
use Rattle.rm_base.specs.Numbers.{one_if}

abbrev free_weight : Option Node → ℕ
free_weight o = free_in (drivers_in o)

abbrev wire_weight : Option Node → ℕ
wire_weight o = length (drivers_in o)

sum_mono : (f g : Option Node → ℕ) → ((o : Option Node) → f o ≤ g o) → (os : List (Option Node)) → sum_by f os ≤ sum_by g os
sum_mono f g h [] = omega arith
sum_mono f g h (o ∷ os) =
    let rest : sum_by f os ≤ sum_by g os = sum_mono f g h os in
    let here : f o ≤ g o = h o in
    let a : sum_by f (o ∷ os) ≡ f o + sum_by f os = sum_by-cons f o os in
    let b : sum_by g (o ∷ os) ≡ g o + sum_by g os = sum_by-cons g o os in
    omega arith

gate_one : (k : Kind) → gate_in k ≤ 1
gate_one k = at (is_gate_kind k)
  where
    at : (b : Bool) → (if b then 1 else 0) ≤ 1
    at true = omega arith
    at false = omega arith

gate_is_one : (k : Kind) → IsGateKind k → gate_in k ≡ 1
gate_is_one k g = at (is_gate_kind k) g
  where
    at : (b : Bool) → T b → ◌≡◌ {A = ℕ} (if b then 1 else 0) 1
    at true g = refl
    at false g = absurd g

pub work_bounded : (net : Net) → work net ≤ 2 * wire_count net + 2 * live_count net
work_bounded net =
    let a : free_pins net ≤ wire_count net = sum_mono free_weight wire_weight (λ o. free_length (drivers_in o)) net.nodes in
    let b : gate_count net ≤ live_count net = sum_mono gate_weight live_in gates net.nodes in
    let c : used_gates net ≤ live_count net = count_places live_in (is_used_gate net) net.nodes 0 places in
    omega arith
  where
    gates : (o : Option Node) → gate_weight o ≤ live_in o
    gates None = omega arith
    gates (Some n) = gate_one n.kind

    places : (j n : ℕ) (o : Option Node) → n ≡ 0 + j → slice_get net.nodes j ≡ Some o → one_if (is_used_gate net n) ≤ live_in o
    places j n (Some m) e there = at_most_one (is_used_gate net n)
    places j n None e there =
        let is : n ≡ j = omega (arith, e) in
        let dead : node_at net n ≡ None = ap (node_at net) is ∙ ap flatten_option there in
        let no_gate : is_gate net n ≡ false = ap (λ o. is_gate_family (family_in (kind_in o))) dead in
        rw no_gate (omega arith)

-- GATES IN USE IN TWO NETS
used_within : (net : Net) (more : ℕ) → used_gates net ≡ count_from 0 (length net.nodes + more) (is_used_gate net)
used_within net more = sym (count_beyond (is_used_gate net) 0 (length net.nodes) more beyond)
  where
    beyond : (x : ℕ) → 0 + length net.nodes ≤ x → is_used_gate net x ≡ false
    beyond x le = false_from_ne_true (is_used_gate net x) (λ e.
        let g : (is_gate net x ≡ true) × _ = and_parts (is_gate net x) (is_in_use net x) e in
        let lt : x < length net.nodes = gate_below net x g.0 in
        omega (arith, le, lt))

-- both counts over one range
used_both : (net after : Net) → (used_gates after ≡ count_from 0 (length net.nodes + length after.nodes) (is_used_gate after)) × (used_gates net ≡ count_from 0 (length net.nodes + length after.nodes) (is_used_gate net))
used_both net after =
    let e : length after.nodes + length net.nodes ≡ length net.nodes + length after.nodes = omega arith in
    (used_within after (length net.nodes) ∙ ap (λ n. count_from 0 n (is_used_gate after)) e, used_within net (length after.nodes))

used_mono : (net after : Net) → ((x : ℕ) → is_used_gate after x ≡ true → is_used_gate net x ≡ true) → used_gates after ≤ used_gates net
used_mono net after h =
    let both : _ × _ = used_both net after in
    let le : _ = count_mono (is_used_gate after) (is_used_gate net) 0 (length net.nodes + length after.nodes) h in
    rw (both.0, both.1) le

used_strict : (net after : Net) (x : ℕ) → is_used_gate net x ≡ true → is_used_gate after x ≡ false → ((y : ℕ) → is_used_gate after y ≡ true → is_used_gate net y ≡ true) → used_gates after + 1 ≤ used_gates net
used_strict net after x passes fails h =
    let both : _ × _ = used_both net after in
    let g : (is_gate net x ≡ true) × _ = and_parts (is_gate net x) (is_in_use net x) passes in
    let lt : x < length net.nodes = gate_below net x g.0 in
    let le : _ = count_strict (is_used_gate after) (is_used_gate net) 0 (length net.nodes + length after.nodes) x (omega arith) (omega (arith, lt)) fails passes h in
    rw (both.0, both.1) le

used_more : (net after : Net) (x : ℕ) → ((y : ℕ) → is_used_gate after y ≡ true → (is_used_gate net y ≡ true) ⊎ (y ≡ x)) → used_gates after ≤ used_gates net + 1
used_more net after x h =
    let both : _ × _ = used_both net after in
    let le : _ = count_more (is_used_gate after) (is_used_gate net) 0 (length net.nodes + length after.nodes) x h in
    rw (both.0, both.1) le

-- a gate in use after was one before, but for some
use_back : (net after : Net) (Extra : ℕ → Type 0) → ((x : ℕ) → is_gate after x ≡ true → is_gate net x ≡ true) → ((x y p : ℕ) → is_gate net x ≡ true → Reads after y p x → (is_in_use net x ≡ true) ⊎ Extra x) → ((x : ℕ) → is_gate net x ≡ true → IsObserved after x → (is_in_use net x ≡ true) ⊎ Extra x) → (x : ℕ) → is_used_gate after x ≡ true → (is_used_gate net x ≡ true) ⊎ Extra x
use_back net after Extra gates reads observed x e =
    let g : (is_gate after x ≡ true) × (is_in_use after x ≡ true) = and_parts (is_gate after x) (is_in_use after x) e in
    let gate : is_gate net x ≡ true = gates x g.0 in
    let used : (is_in_use net x ≡ true) ⊎ Extra x = elim (used_by after x g.1) [ inl r ↦ reads x r.0 r.1.0 gate r.1.1 | inr o ↦ observed x gate o ] in
    elim used [ inl u ↦ inl (and_from (is_gate net x) (is_in_use net x) gate u) | inr extra ↦ inr extra ]

only_left : {A : Type 0} → A ⊎ ⊥ → A
only_left (inl a) = a
only_left (inr none) = absurd none

gate_same : (net after : Net) (x : ℕ) → kind_of after x ≡ kind_of net x → is_gate after x ≡ true → is_gate net x ≡ true
gate_same net after x e h = ap (λ k. is_gate_family (family_in k)) (sym e) ∙ h

abbrev Nothing : ℕ → Type 0
Nothing x = ⊥

-- ANOTHER GATE IN THE PLACE OF ONE
module _ (net : Net) (gate : ℕ) (new : Node) (g : IsGate net gate) (k' : IsGateKind new.kind) where
  abbrev node : Node
  node = record { kind = g.0; drivers = g.1.0.0 }

  abbrev after : Net
  after = with_node net gate new

  there : node_at after gate ≡ Some new
  there = with_node-there net gate new node g.1.0.1

  gates : (x : ℕ) → is_gate after x ≡ true → is_gate net x ≡ true
  gates x e = elim (eqb_tells x gate) [
    | inl t ↦ ap (is_gate net) t.1 ∙ is_gate_there net gate g
    | inr t ↦ gate_same net after x (ap kind_in (with_node-other net gate new x t.1)) e
  ]

  old : drivers_of net gate ≡ g.1.0.0
  old = ap drivers_in g.1.0.1

  pub node_used : (Extra : ℕ → Type 0) → ((x p : ℕ) → is_gate net x ≡ true → slice_get new.drivers p ≡ Some x → ((q : ℕ) × Reads net gate q x) ⊎ Extra x) → (x : ℕ) → is_used_gate after x ≡ true → (is_used_gate net x ≡ true) ⊎ Extra x
  node_used Extra h = use_back net after Extra gates reads (λ x k o. inl (observed_in_use net x o))
    where
      reads : (x y p : ℕ) → is_gate net x ≡ true → Reads after y p x → (is_in_use net x ≡ true) ⊎ Extra x
      reads x y p k r = elim (eqb_tells y gate) [
        | inl t ↦
            let here : slice_get new.drivers p ≡ Some x = ap (λ es. slice_get es p) (sym (ap (drivers_of after) t.1 ∙ ap drivers_in there)) ∙ r in
            elim (h x p k here) [ inl q ↦ inl (read_in_use net x gate q.0 q.1) | inr extra ↦ inr extra ]
        | inr t ↦ inl (read_in_use net x y p (ap (λ o. slice_get (drivers_in o) p) (sym (with_node-other net gate new y t.1)) ∙ r))
      ]

  pub node_free : free_pins after + free_in (drivers_of net gate) ≡ free_pins net + free_in new.drivers
  node_free = rw old (total_node free_weight net gate new node g.1.0.1)

  pub node_wires : wire_count after + length (drivers_of net gate) ≡ wire_count net + length new.drivers
  node_wires = rw old (total_node wire_weight net gate new node g.1.0.1)

  pub node_gates : gate_count after ≡ gate_count net
  node_gates =
      let e : gate_count after + gate_in g.0 ≡ gate_count net + gate_in new.kind = total_node gate_weight net gate new node g.1.0.1 in
      omega (arith, e, gate_is_one g.0 g.1.1, gate_is_one new.kind k')

-- OTHER DRIVERS AT A GATE
module _ (net : Net) (gate : ℕ) (ds : List ℕ) (g : IsGate net gate) where
  abbrev redriven : Node
  redriven = record { kind = g.0; drivers = ds }

  same : with_drivers net gate ds ≡ with_node net gate redriven
  same = redriven_node net gate ds (record { kind = g.0; drivers = g.1.0.0 }) g.1.0.1

  pub with_kinds : (x : ℕ) → kind_of (with_drivers net gate ds) x ≡ kind_of net x
  with_kinds x = elim (eqb_tells x gate) [
    | inl t ↦ ap (kind_of (with_drivers net gate ds)) t.1 ∙ ap kind_in (node_at-there net gate ds (record { kind = g.0; drivers = g.1.0.0 }) g.1.0.1) ∙ sym (ap (kind_of net) t.1 ∙ ap kind_in g.1.0.1)
    | inr t ↦ ap kind_in (node_at-other net gate ds x t.1)
  ]

  pub with_used : (Extra : ℕ → Type 0) → ((x p : ℕ) → is_gate net x ≡ true → slice_get ds p ≡ Some x → ((q : ℕ) × Reads net gate q x) ⊎ Extra x) → (x : ℕ) → is_used_gate (with_drivers net gate ds) x ≡ true → (is_used_gate net x ≡ true) ⊎ Extra x
  with_used Extra h x e = node_used net gate redriven g g.1.1 Extra h x (ap (λ (n : Net). is_used_gate n x) (sym same) ∙ e)

  pub with_free : free_pins (with_drivers net gate ds) + free_in (drivers_of net gate) ≡ free_pins net + free_in ds
  with_free = ap (λ (n : Net). free_pins n + free_in (drivers_of net gate)) same ∙ node_free net gate redriven g g.1.1

  pub with_wires : wire_count (with_drivers net gate ds) + length (drivers_of net gate) ≡ wire_count net + length ds
  with_wires = ap (λ (n : Net). wire_count n + length (drivers_of net gate)) same ∙ node_wires net gate redriven g g.1.1

  pub with_gates : gate_count (with_drivers net gate ds) ≡ gate_count net
  with_gates = ap gate_count same ∙ node_gates net gate redriven g g.1.1

pub remove_falls : (net : Net) (gate p : ℕ) → CanChange net (remove gate p) → work (without_pin net gate p) + 1 ≤ work net
remove_falls net gate p (j, lt) =
    let g : IsGate net gate = junction_kind net gate j.0 j.1 in
    let a : _ ≡ _ = with_free net gate (without (drivers_of net gate) p) g in
    let b : _ ≡ _ = with_wires net gate (without (drivers_of net gate) p) g in
    let c : _ ≡ _ = with_gates net gate (without (drivers_of net gate) p) g in
    let d : _ ≤ _ = used_mono net (without_pin net gate p) (λ x e. only_left (with_used net gate (without (drivers_of net gate) p) g Nothing (λ y q k there. inl (without_before (drivers_of net gate) p q y there)) x e)) in
    let f : _ ≤ _ = free_without (drivers_of net gate) p in
    let l : _ ≡ _ = length_without (drivers_of net gate) p lt in
    omega arith

abbrev turned : Net → ℕ → ℕ → Node
turned net gate p = record { kind = Not; drivers = without (drivers_of net gate) p }

pub turn_frees : (net : Net) (gate p : ℕ) → CanChange net (to_not gate p) → free_pins (turned_to_not net gate p) ≤ free_pins net
turn_frees net gate p (is, lt) =
    let a : _ ≡ _ = node_free net gate (turned net gate p) (Xor, (is, tt)) tt in
    let f : _ ≤ _ = free_without (drivers_of net gate) p in
    omega arith

pub turn_falls : (net : Net) (gate p : ℕ) → CanChange net (to_not gate p) → work (turned_to_not net gate p) + 1 ≤ work net
turn_falls net gate p (is, lt) =
    let g : IsGate net gate = (Xor, (is, tt)) in
    let a : _ ≡ _ = node_free net gate (turned net gate p) g tt in
    let b : _ ≡ _ = node_wires net gate (turned net gate p) g tt in
    let c : _ ≡ _ = node_gates net gate (turned net gate p) g tt in
    let d : _ ≤ _ = used_mono net (turned_to_not net gate p) (λ x e. only_left (node_used net gate (turned net gate p) g tt Nothing (λ y q k there. inl (without_before (drivers_of net gate) p q y there)) x e)) in
    let f : _ ≤ _ = free_without (drivers_of net gate) p in
    let l : _ ≡ _ = length_without (drivers_of net gate) p lt in
    omega arith

pub turn_wires : (net : Net) (gate p : ℕ) → CanChange net (to_not gate p) → wire_count (turned_to_not net gate p) ≤ wire_count net + 0
turn_wires net gate p (is, lt) =
    let b : _ ≡ _ = node_wires net gate (turned net gate p) (Xor, (is, tt)) tt in
    let l : _ ≡ _ = length_without (drivers_of net gate) p lt in
    omega arith

pub remove_wires : (net : Net) (gate p : ℕ) → CanChange net (remove gate p) → wire_count (without_pin net gate p) ≤ wire_count net + 0
remove_wires net gate p (j, lt) =
    let b : _ ≡ _ = with_wires net gate (without (drivers_of net gate) p) (junction_kind net gate j.0 j.1) in
    let l : _ ≡ _ = length_without (drivers_of net gate) p lt in
    omega arith

pub fix_wires : (net : Net) (gate p : ℕ) (value : Bool) → CanChange net (fix gate p value) → wire_count (changed net (fix gate p value)) ≤ wire_count net + 0
fix_wires net gate p value (g, lt) =
    let b : _ ≡ _ = with_wires net gate (slice_set (drivers_of net gate) p (constant_node value)) g in
    let l : _ ≡ _ = length_set (drivers_of net gate) p (constant_node value) in
    omega arith

pub constant_bound : (b : Bool) → one_if (nat_lt 1 (constant_node b)) ≡ 0
constant_bound true = refl
constant_bound false = refl

pub fix_falls : (net : Net) → IsWellFormed net → (gate p : ℕ) (value : Bool) (d : ℕ) → CanChange net (fix gate p value) → Reads net gate p d → work (changed net (fix gate p value)) + one_if (nat_lt 1 d) ≤ work net
fix_falls net well gate p value d (g, lt) reads =
    let ds : List ℕ = slice_set (drivers_of net gate) p (constant_node value) in
    let a : free_pins (with_drivers net gate ds) + free_in (drivers_of net gate) ≡ free_pins net + free_in ds = with_free net gate ds g in
    let b : wire_count (with_drivers net gate ds) + length (drivers_of net gate) ≡ wire_count net + length ds = with_wires net gate ds g in
    let c : gate_count (with_drivers net gate ds) ≡ gate_count net = with_gates net gate ds g in
    let u : used_gates (with_drivers net gate ds) ≤ used_gates net = used_mono net (with_drivers net gate ds) (λ x e. only_left (with_used net gate ds g Nothing old x e)) in
    let f : free_in ds + one_if (nat_lt 1 d) ≡ free_in (drivers_of net gate) = free_set (drivers_of net gate) p (constant_node value) d reads (constant_bound value) in
    let l : length ds ≡ length (drivers_of net gate) = length_set (drivers_of net gate) p (constant_node value) in
    omega arith
  where
    old : (x q : ℕ) → is_gate net x ≡ true → slice_get (slice_set (drivers_of net gate) p (constant_node value)) q ≡ Some x → ((r : ℕ) × Reads net gate r x) ⊎ ⊥
    old x q k there = elim (set_cases (drivers_of net gate) p q (constant_node value) x there) [
      | inl is ↦ absurd (constant_apart net well.constants x (gate_is net x k) value (sym is))
      | inr before ↦ inl (q, before)
    ]

pub append_raises : (net : Net) (gate driver : ℕ) → CanChange net (append gate driver) → (work (with_pin net gate driver) ≤ work net + 3) × (wire_count (with_pin net gate driver) ≡ wire_count net + 1)
append_raises net gate driver (j, rest) =
    let g : IsGate net gate = junction_kind net gate j.0 j.1 in
    let ds : List ℕ = drivers_of net gate ++ driver ∷ [] in
    let a : free_pins (with_drivers net gate ds) + free_in (drivers_of net gate) ≡ free_pins net + free_in ds = with_free net gate ds g in
    let b : wire_count (with_drivers net gate ds) + length (drivers_of net gate) ≡ wire_count net + length ds = with_wires net gate ds g in
    let c : gate_count (with_drivers net gate ds) ≡ gate_count net = with_gates net gate ds g in
    let u : used_gates (with_drivers net gate ds) ≤ used_gates net + 1 = used_more net (with_drivers net gate ds) driver (with_used net gate ds g (λ x. x ≡ driver) new) in
    let f : free_in ds ≤ free_in (drivers_of net gate) + 1 = free_last (drivers_of net gate) driver in
    let l : length ds ≡ length (drivers_of net gate) + 1 = length_push (drivers_of net gate) driver in
    (omega arith, omega arith)
  where
    new : (x q : ℕ) → is_gate net x ≡ true → slice_get (drivers_of net gate ++ driver ∷ []) q ≡ Some x → ((r : ℕ) × Reads net gate r x) ⊎ (x ≡ driver)
    new x q k there = elim (last_cases (drivers_of net gate) driver q x there) [ inl before ↦ inl (q, before) | inr is ↦ inr is ]

-- A MOVE OF READERS
pub above_constants : (net : Net) → IsWellFormed net → (gate : ℕ) → IsGate net gate → 1 < gate
above_constants net well zero g = absurd (constant_apart net well.constants 0 g false refl)
above_constants net well (suc zero) g = absurd (constant_apart net well.constants 1 g true refl)
above_constants net well (suc (suc n)) g = omega arith

moved_away : (from to : ℕ) (ds : List ℕ) (p : ℕ) → to ≢ from → slice_get (map (redirected from to) ds) p ≡ Some from → ⊥
moved_away from to [] p ne e = cc
moved_away from to (d ∷ ds) zero ne e = elim (eqb_tells d from) [
  | inl t ↦ let e' : Some to ≡ Some from = rw t.0 at e in ne cc
  | inr t ↦ let e' : Some d ≡ Some from = rw t.0 at e in t.1 cc
]
moved_away from to (d ∷ ds) (suc p) ne e = moved_away from to ds p ne e

module _ (net : Net) (from to : ℕ) (well : IsWellFormed net) (can : CanChange net (readers from to)) where
  abbrev moved : Net
  moved = with_readers_moved net from to

  moved_drivers : (y : ℕ) → drivers_of moved y ≡ map (redirected from to) (drivers_of net y)
  moved_drivers y = ap drivers_in (node_at-moved net from to y) ∙ drivers_redirected from to (node_at net y)

  pub moved_kinds : (x : ℕ) → kind_of moved x ≡ kind_of net x
  moved_kinds x = ap kind_in (node_at-moved net from to x) ∙ same (node_at net x)
    where
      same : (o : Option Node) → kind_in (node_redirected from to o) ≡ kind_in o
      same None = refl
      same (Some n) = refl

  moved_unused : is_used_gate moved from ≡ false
  moved_unused = false_from_ne_true (is_used_gate moved from) (λ e.
      let g : (is_gate moved from ≡ true) × (is_in_use moved from ≡ true) = and_parts (is_gate moved from) (is_in_use moved from) e in
      elim (used_by moved from g.1) [
        | inl r ↦ moved_away from to (drivers_of net r.0) r.1.0 can.1.1.0 (ap (λ ds. slice_get ds r.1.0) (sym (moved_drivers r.0)) ∙ r.1.1)
        | inr o ↦ moved_away from to net.observed o.0 can.1.1.0 o.1
      ])

  moved_used : (is_gate net to ≡ true → is_in_use net to ≡ true) → (x : ℕ) → is_used_gate moved x ≡ true → is_used_gate net x ≡ true
  moved_used used x e = only_left (use_back net moved Nothing (λ y k. gate_same net moved y (moved_kinds y) k) reads observed x e)
    where
      reads : (x y p : ℕ) → is_gate net x ≡ true → Reads moved y p x → (is_in_use net x ≡ true) ⊎ ⊥
      reads x y p k r = elim (redirect_cases from to (drivers_of net y) p x (ap (λ ds. slice_get ds p) (sym (moved_drivers y)) ∙ r)) [
        | inl before ↦ inl (read_in_use net x y p before)
        | inr new ↦ inl (ap (is_in_use net) new.0 ∙ used (sym (ap (is_gate net) new.0) ∙ k))
      ]

      observed : (x : ℕ) → is_gate net x ≡ true → IsObserved moved x → (is_in_use net x ≡ true) ⊎ ⊥
      observed x k o = elim (redirect_cases from to net.observed o.0 x o.1) [
        | inl before ↦ inl (observed_in_use net x (o.0, before))
        | inr new ↦ inl (ap (is_in_use net) new.0 ∙ used (sym (ap (is_gate net) new.0) ∙ k))
      ]

  moved_free : free_pins moved ≤ free_pins net
  moved_free = le net.nodes
    where
      one : (o : Option Node) → free_weight (node_redirected from to o) ≤ free_weight o
      one None = omega arith
      one (Some n) = free_moved from to n.drivers (above_constants net well from can.0)

      le : (os : List (Option Node)) → sum_by free_weight (map (node_redirected from to) os) ≤ sum_by free_weight os
      le [] = omega arith
      le (o ∷ os) =
          let rest : sum_by free_weight (map (node_redirected from to) os) ≤ sum_by free_weight os = le os in
          let here : free_weight (node_redirected from to o) ≤ free_weight o = one o in
          let a : sum_by free_weight (node_redirected from to o ∷ map (node_redirected from to) os) ≡ free_weight (node_redirected from to o) + sum_by free_weight (map (node_redirected from to) os) = sum_by-cons free_weight (node_redirected from to o) (map (node_redirected from to) os) in
          let b : sum_by free_weight (o ∷ os) ≡ free_weight o + sum_by free_weight os = sum_by-cons free_weight o os in
          omega arith

  pub moved_wires : wire_count moved ≡ wire_count net
  moved_wires = total_map wire_weight (node_redirected from to) same net.nodes
    where
      same : (o : Option Node) → wire_weight (node_redirected from to o) ≡ wire_weight o
      same None = refl
      same (Some n) = length_moved from to n.drivers

  moved_gates : gate_count moved ≡ gate_count net
  moved_gates = total_map gate_weight (node_redirected from to) same net.nodes
    where
      same : (o : Option Node) → gate_weight (node_redirected from to o) ≡ gate_weight o
      same None = refl
      same (Some n) = refl

  pub readers_fall : is_in_use net from ≡ true → (is_gate net to ≡ true → is_in_use net to ≡ true) → work moved + 1 ≤ work net
  readers_fall in_use used =
      let passes : is_used_gate net from ≡ true = and_from (is_gate net from) (is_in_use net from) (is_gate_there net from can.0) in_use in
      let a : used_gates moved + 1 ≤ used_gates net = used_strict net moved from passes moved_unused (moved_used used) in
      let b : free_pins moved ≤ free_pins net = moved_free in
      let c : wire_count moved ≡ wire_count net = moved_wires in
      let d : gate_count moved ≡ gate_count net = moved_gates in
      omega arith

-- A NODE THAT IS NEW OR GONE
pub retire_falls : (net : Net) (gate : ℕ) → CanChange net (retire gate) → (work (without_node net gate) + 1 ≤ work net) × (wire_count (without_node net gate) ≤ wire_count net)
retire_falls net gate (g, unread) =
    let n : Node = record { kind = g.0; drivers = g.1.0.0 } in
    let a : free_pins after + free_in g.1.0.0 ≡ free_pins net = total_gone free_weight refl net gate (record { kind = g.0; drivers = g.1.0.0 }) g.1.0.1 in
    let b : wire_count after + length g.1.0.0 ≡ wire_count net = total_gone wire_weight refl net gate (record { kind = g.0; drivers = g.1.0.0 }) g.1.0.1 in
    let c : gate_count after + gate_in g.0 ≡ gate_count net = total_gone gate_weight refl net gate (record { kind = g.0; drivers = g.1.0.0 }) g.1.0.1 in
    let one : gate_in g.0 ≡ 1 = gate_is_one g.0 g.1.1 in
    let u : used_gates after ≤ used_gates net = used_mono net after (λ x e. only_left (use_back net after Nothing gates reads (λ x k o. inl (observed_in_use net x o)) x e)) in
    (omega arith, omega arith)
  where
    after : Net
    after = without_node net gate

    others : (y : ℕ) → y ≢ gate → node_at after y ≡ node_at net y
    others y ne = (gone_differs net gate).others y ne

    gates : (x : ℕ) → is_gate after x ≡ true → is_gate net x ≡ true
    gates x e = elim (eqb_tells x gate) [
      | inl t ↦ ap (is_gate net) t.1 ∙ is_gate_there net gate g
      | inr t ↦ gate_same net after x (ap kind_in (others x t.1)) e
    ]

    reads : (x y p : ℕ) → is_gate net x ≡ true → Reads after y p x → (is_in_use net x ≡ true) ⊎ ⊥
    reads x y p k r = elim (eqb_tells y gate) [
      | inl t ↦
          let none : slice_get {X = ℕ} [] p ≡ Some x = ap (λ o. slice_get (drivers_in o) p) (sym (ap (node_at after) t.1 ∙ gone-there net.nodes gate)) ∙ r in cc
      | inr t ↦ inl (read_in_use net x y p (ap (λ o. slice_get (drivers_in o) p) (sym (others y t.1)) ∙ r))
    ]

pub new_raises : (net : Net) → IsWellFormed net → (driver : ℕ) → IsLive net driver → (work (with_new_not net driver) ≤ work net + 4) × (wire_count (with_new_not net driver) ≡ wire_count net + 1)
new_raises net well driver live =
    let a : free_pins after ≡ free_pins net + free_in (driver ∷ []) = total_least free_weight refl net.nodes n in
    let b : wire_count after ≡ wire_count net + 1 = total_least wire_weight refl net.nodes n in
    let c : gate_count after ≡ gate_count net + 1 = total_least gate_weight refl net.nodes n in
    let one : one_if (nat_lt 1 driver) ≤ 1 = at_most_one (nat_lt 1 driver) in
    let u : used_gates after ≤ used_gates net + 1 = used_more net after driver used in
    (omega arith, b)
  where
    n : Node
    n = record { kind = Not; drivers = driver ∷ [] }

    after : Net
    after = with_new_not net driver

    new : ℕ
    new = least_free net.nodes

    dead : node_at net new ≡ None
    dead = least_is_free net.nodes

    unread : IsUnread net new
    unread = free_unread net new well dead

    others : (y : ℕ) → y ≢ new → node_at after y ≡ node_at net y
    others y ne = (new_differs net driver).others y ne

    only : (p x : ℕ) → Reads after new p x → x ≡ driver
    only p x r = one_there (ap (λ o. slice_get (drivers_in o) p) (sym (least-there net.nodes n)) ∙ r)
      where
        one_there : slice_get (driver ∷ []) p ≡ Some x → x ≡ driver
        one_there e = at p e
          where
            at : (p : ℕ) → slice_get (driver ∷ []) p ≡ Some x → x ≡ driver
            at zero e = cc
            at (suc p) e = cc

    not_new : driver ≢ new
    not_new e = some_none (sym live.1.1 ∙ ap (node_at net) e ∙ dead)

    read : (x y p : ℕ) → Reads after y p x → ((q : ℕ) × Reads net y q x) ⊎ (x ≡ driver)
    read x y p r = elim (eqb_tells y new) [
      | inl t ↦ inr (only p x (ap (λ z. slice_get (drivers_of after z) p) (sym t.1) ∙ r))
      | inr t ↦ inl (p, ap (λ o. slice_get (drivers_in o) p) (sym (others y t.1)) ∙ r)
    ]

    used : (x : ℕ) → is_used_gate after x ≡ true → (is_used_gate net x ≡ true) ⊎ (x ≡ driver)
    used x e = elim (eqb_tells x new) [
      | inl t ↦
          let at_new : is_used_gate after new ≡ true = ap (is_used_gate after) (sym t.1) ∙ e in
          let g : (is_gate after new ≡ true) × (is_in_use after new ≡ true) = and_parts (is_gate after new) (is_in_use after new) at_new in
          elim (used_by after new g.1) [
            | inl r ↦ elim (read new r.0 r.1.0 r.1.1) [ inl before ↦ absurd (unread.unread r.0 before.0 before.1) | inr is ↦ absurd (not_new (sym is)) ]
            | inr o ↦ absurd (unread.unobserved o)
          ]
      | inr t ↦
          let g : (is_gate after x ≡ true) × (is_in_use after x ≡ true) = and_parts (is_gate after x) (is_in_use after x) e in
          let gate : is_gate net x ≡ true = gate_same net after x (ap kind_in (others x t.1)) g.0 in
          elim (used_by after x g.1) [
            | inl r ↦ elim (read x r.0 r.1.0 r.1.1) [
              | inl before ↦ inl (and_from (is_gate net x) (is_in_use net x) gate (read_in_use net x r.0 before.0 before.1))
              | inr is ↦ inr is
            ]
            | inr o ↦ inl (and_from (is_gate net x) (is_in_use net x) gate (observed_in_use net x o))
          ]
    ]
