-- What the calls that read a graph tell of its net.
use Rattle.std.proofs.Common.{◌≡◌, ℕ, zero, suc, ◌<◌, ◌≤◌, Bool, true, false, ◌&&◌, ◌↔◌, Option, Some, None, List, [], ◌∷◌, length, map, take, refl, sym, ◌∙◌, ap, arith}
use Rattle.std.specs.Prelude.{not, nat_lt, slice_get, option_and_then}
use Rattle.std.proofs.lemmas.Bool.{eq-eqb, and_from, both_ways, lt-ltb, or_left, or_right, and_parts, false_from_ne_true}
use Rattle.gate_net.specs.Net.{Net, node_at, drivers_in, drivers_of, Reads, IsObserved, IsLive, IsGate, IsWellFormed}
use Rattle.gate_graph.specs.Circuit.{Circuit, net_of, fanouts_of}
use Rattle.gate_graph.specs.Readers.{ListReaders}
use Rattle.wire_edit.specs.Tests.{is_live, is_present, is_gate, is_not, is_xor, is_junction, reads_several, constant_of, driver_at, is_read_in, is_in_use, is_among, is_some_among, is_repeated}
use Rattle.wire_edit.specs.Inner.Firsts.{IsFirst, reads_constant, is_twin}
use Rattle.wire_edit.specs.Steps.{same_some}
use Rattle.wire_edit.specs.Inner.Marked.{IsQuietBelow}
use Rattle.wire_edit.proofs.Tested.{several_junction, xor_is, absent, unread_unused, gate_is, not_is, among_at, at_among, at_read, read_at, same_at, not_gate}
use Rattle.wire_edit.proofs.Keeping.{not_pin}
use Rattle.wire_edit.proofs.Ordering.{NoRules, none_rules}
use Rattle.wire_edit.proofs.Gates.{gates_of, gate_listed, gate_reads, no_gate}
use Rattle.wire_edit.proofs.Formed.{free_unread}

pub gate_live : (net : Net) (x : ℕ) → is_gate net x ≡ true → IsLive net x
gate_live net x e = let g : IsGate net x = gate_is net x e in (g.0, g.1.0)

pub first_reader : (v : Circuit) (x : ℕ) (gates rest : List ℕ) (gate : ℕ) → ListReaders v → gates ≡ gates_of v x → gates ≡ gate ∷ rest → is_read_in (net_of v).nodes x ≡ true
first_reader v x gates rest gate listed is first =
    let r : (p : ℕ) × Reads (net_of v) gate p x = gate_reads v listed x 0 gate (ap (λ (gs : List ℕ). slice_get gs 0) (sym is ∙ first)) in
    at_read (net_of v).nodes x gate r.0 r.1

pub no_reader : (v : Circuit) (x : ℕ) (gates : List ℕ) → ListReaders v → gates ≡ gates_of v x → gates ≡ [] → is_read_in (net_of v).nodes x ≡ false
no_reader v x gates listed is none = false_from_ne_true _ (λ e.
    let r : (y : ℕ) × ((p : ℕ) × Reads (net_of v) y p x) = read_at (net_of v).nodes x e in
    let k : (k : ℕ) × (slice_get (gates_of v x) k ≡ Some r.0) = gate_listed v listed x r.0 r.1.0 r.1.1 in
    no_gate k.0 r.0 (ap (λ (gs : List ℕ). slice_get gs k.0) (sym (sym is ∙ none)) ∙ k.1))

-- a node is in use where it has a reader, and else where it is observed
pub used_test : (v : Circuit) (x : ℕ) (b : Bool) → ListReaders v → (b ≡ false → fanouts_of v x ≡ []) → (b ≡ false → IsObserved (net_of v) x → ⊥) → (b ≡ true → fanouts_of v x ≡ [] → IsObserved (net_of v) x) → b ≡ is_in_use (net_of v) x
used_test v x false listed unread unobserved used =
    let read : is_read_in (net_of v).nodes x ≡ false = no_reader v x (gates_of v x) listed refl (ap (map (λ (place : ℕ × ℕ). place.0)) (unread refl)) in
    let observed : is_among x (net_of v).observed ≡ false = false_from_ne_true _ (λ e. unobserved refl (among_at x (net_of v).observed e)) in
    rw (read, observed) refl
used_test v x true listed unread unobserved used = by (fanouts_of v x) refl
  where
    by : (places : List (ℕ × ℕ)) → fanouts_of v x ≡ places → true ≡ is_in_use (net_of v) x
    by [] e = let o : IsObserved (net_of v) x = used refl e in sym (or_right (is_read_in (net_of v).nodes x) _ (at_among x (net_of v).observed o.0 o.1))
    by (place ∷ places) e = sym (or_left _ (is_among x (net_of v).observed) (first_reader v x (gates_of v x) _ _ listed refl (ap (map (λ (p : ℕ × ℕ). p.0)) e)))

pub observed_test : (net : Net) (x : ℕ) (b : Bool) → ((b ≡ true) ↔ IsObserved net x) → b ≡ is_among x net.observed
observed_test net x true h = let o : IsObserved net x = h.0 refl in sym (at_among x net.observed o.0 o.1)
observed_test net x false h = sym (false_from_ne_true (is_among x net.observed) (λ e. let wrong : false ≡ true = h.1 (among_at x net.observed e) in cc))

pub constant_test : (net : Net) (gate p d : ℕ) → driver_at net gate p ≡ Some d → reads_constant net gate p ≡ is_present (constant_of net d)
constant_test net gate p d e = ap (λ o. is_present (option_and_then (constant_of net) o)) e

pub repeated_test : (ds : List ℕ) (k d : ℕ) → slice_get ds k ≡ Some d → is_repeated ds k ≡ is_among d (take k ds)
repeated_test ds k d e = ap (λ o. is_some_among o (take k ds)) e

-- an And or an Or, where there are fewer pins than an Xor has
pub few_junction : (net : Net) → IsWellFormed net → (x : ℕ) → reads_several net x ≡ true → length (drivers_of net x) < 2 → is_junction net x ≡ true
few_junction net well x s few = several_junction net x s (false_from_ne_true (is_xor net x) (λ y.
    let two = well.xors_have_two x (xor_is net x y) in
    let count : length (drivers_of net x) ≡ 2 = ap length two.2 in
    omega (arith, few, count)))

-- THE LEAST TWIN
same_there : (o q : Option ℕ) (d : ℕ) → o ≡ Some d → q ≡ Some d → same_some o q ≡ true
same_there None q d e f = cc
same_there (Some y) None d e f = cc
same_there (Some y) (Some z) d e f = let is : y ≡ z = cc in eq-eqb y z is

twin_reads : (net : Net) (gate driver other : ℕ) → driver_at net gate 0 ≡ Some driver → is_twin net gate other ≡ true → (is_not net other ≡ true) × Reads net other 0 driver
twin_reads net gate driver other is e =
    let a : (is_not net other ≡ true) × (same_some (driver_at net gate 0) (driver_at net other 0) ≡ true) = and_parts (is_not net other) _ e in
    let d : (d : ℕ) × ((driver_at net gate 0 ≡ Some d) × (driver_at net other 0 ≡ Some d)) = same_at (driver_at net gate 0) (driver_at net other 0) a.1 in
    let same : Some d.0 ≡ Some driver = sym d.1.0 ∙ is in
    (a.0, d.1.1 ∙ same)

-- the readers of the driver that are still to come, among them the lower Nots
pub record Twins (v : Circuit) (gate driver : ℕ) (gates : List ℕ) : Type 0 where
  pub reads : (k y : ℕ) → slice_get gates k ≡ Some y → (p : ℕ) × Reads (net_of v) y p driver
  pub left : (other : ℕ) → other < gate → is_twin (net_of v) gate other ≡ true → (k : ℕ) × (slice_get gates k ≡ Some other)

pub twins_start : (v : Circuit) (gate driver : ℕ) (gates : List ℕ) → ListReaders v → driver_at (net_of v) gate 0 ≡ Some driver → gates ≡ gates_of v driver → Twins v gate driver gates
twins_start v gate driver gates listed is e = record {
  reads = λ k y there. gate_reads v listed driver k y (ap (λ (gs : List ℕ). slice_get gs k) (sym e) ∙ there);
  left = λ other lt t.
      let r : (is_not (net_of v) other ≡ true) × Reads (net_of v) other 0 driver = twin_reads (net_of v) gate driver other is t in
      let k : (k : ℕ) × (slice_get (gates_of v driver) k ≡ Some other) = gate_listed v listed driver other 0 r.1 in
      (k.0, ap (λ (gs : List ℕ). slice_get gs k.0) e ∙ k.1);
}

pub twins_step : (v : Circuit) (gate driver reader : ℕ) (gates rest : List ℕ) → driver_at (net_of v) gate 0 ≡ Some driver → Twins v gate driver gates → gates ≡ reader ∷ rest → (reader < gate → is_not (net_of v) reader ≡ false) → Twins v gate driver rest
twins_step v gate driver reader gates rest is t e other_kind = record {
  reads = λ k y there. t.reads (suc k) y (ap (λ (gs : List ℕ). slice_get gs (suc k)) e ∙ there);
  left = λ other lt twin. let k : (k : ℕ) × (slice_get gates k ≡ Some other) = t.left other lt twin in at other lt twin k.0 (ap (λ (gs : List ℕ). slice_get gs k.0) (sym e) ∙ k.1);
}
  where
    at : (other : ℕ) → other < gate → is_twin (net_of v) gate other ≡ true → (k : ℕ) → slice_get (reader ∷ rest) k ≡ Some other → (k : ℕ) × (slice_get rest k ≡ Some other)
    at other lt twin zero there =
        let same : reader ≡ other = cc in
        let n : (is_not (net_of v) other ≡ true) × _ = twin_reads (net_of v) gate driver other is twin in
        absurd (both_ways (is_not (net_of v) reader) (other_kind (omega (arith, lt, same))) (ap (is_not (net_of v)) same ∙ n.0))
    at other lt twin (suc k) there = (k, there)

pub twins_none : (v : Circuit) (gate driver : ℕ) (gates : List ℕ) → Twins v gate driver gates → gates ≡ [] → IsFirst (is_twin (net_of v) gate) gate None
twins_none v gate driver gates t none j lt = false_from_ne_true _ (λ twin.
    let k : (k : ℕ) × (slice_get gates k ≡ Some j) = t.left j lt twin in
    no_gate k.0 j (ap (λ (gs : List ℕ). slice_get gs k.0) (sym none) ∙ k.1))

-- where no rule applies at a lower number, no two lower Nots have one driver
one_twin : (net : Net) (gate driver one other : ℕ) → driver_at net gate 0 ≡ Some driver → IsQuietBelow net gate → one < gate → other < one → is_twin net gate one ≡ true → is_twin net gate other ≡ true → ⊥
one_twin net gate driver one other is quiet lt less first second =
    let a : (is_not net one ≡ true) × Reads net one 0 driver = twin_reads net gate driver one is first in
    let b : (is_not net other ≡ true) × Reads net other 0 driver = twin_reads net gate driver other is second in
    let none : NoRules net one = none_rules net one (quiet one lt) in
    let same : same_some (driver_at net one 0) (driver_at net other 0) ≡ true = same_there (driver_at net one 0) (driver_at net other 0) driver a.1 b.1 in
    used (is_in_use net one) a.0 same (lt-ltb other one less) refl none b.0
  where
    used : (u : Bool) → is_not net one ≡ true → same_some (driver_at net one 0) (driver_at net other 0) ≡ true → nat_lt other one ≡ true → is_in_use net one ≡ u → NoRules net one → is_not net other ≡ true → ⊥
    used true n same lower u none m =
        both_ways _ (none.no_twin other) (and_from (is_not net one) _ n (and_from (is_in_use net one) _ u (and_from (is_not net other) _ m (and_from (nat_lt other one) _ lower same))))
    used false n same lower u none m = both_ways _ none.no_dead (and_from (is_gate net one) _ (not_gate net one n) (ap not u))

pub twins_found : (v : Circuit) (gate driver reader : ℕ) (gates rest : List ℕ) → IsWellFormed (net_of v) → driver_at (net_of v) gate 0 ≡ Some driver → IsQuietBelow (net_of v) gate → Twins v gate driver gates → gates ≡ reader ∷ rest → reader < gate → is_not (net_of v) reader ≡ true → IsFirst (is_twin (net_of v) gate) gate (Some reader)
twins_found v gate driver reader gates rest well is quiet t e lt n =
    (lt, (here, λ j less. false_from_ne_true _ (λ twin. one_twin (net_of v) gate driver reader j is quiet lt less here twin)))
  where
    here : is_twin (net_of v) gate reader ≡ true
    here =
        let r : (p : ℕ) × Reads (net_of v) reader p driver = t.reads 0 reader (ap (λ (gs : List ℕ). slice_get gs 0) e) in
        let own : Reads (net_of v) reader 0 driver = not_pin (net_of v) well reader r.0 driver (not_is (net_of v) reader n) r.1 in
        and_from (is_not (net_of v) reader) _ n (same_there (driver_at (net_of v) gate 0) (driver_at (net_of v) reader 0) driver is own)

pub not_driven : (net : Net) (gate : ℕ) → IsWellFormed net → is_not net gate ≡ true → driver_at net gate 0 ≡ None → ⊥
not_driven net gate well n none =
    let d : (d : ℕ) × (drivers_of net gate ≡ d ∷ []) = well.nots_have_one gate (not_is net gate n) in
    driven d.0 (sym (ap (λ ds. slice_get ds 0) d.1) ∙ none)
  where
    driven : (d : ℕ) → ◌≡◌ {A = Option ℕ} (Some d) None → ⊥
    driven d e = cc

pub past_end : (ds : List ℕ) (k : ℕ) → slice_get ds k ≡ None → length ds ≤ k
past_end [] k e = omega arith
past_end (d ∷ ds) zero e = cc
past_end (d ∷ ds) (suc k) e = let rest : length ds ≤ k = past_end ds k e in omega arith

pub dead_unused : (net : Net) (x : ℕ) → IsWellFormed net → is_live net x ≡ false → is_in_use net x ≡ false
dead_unused net x well e = unread_unused net x (free_unread net x well (absent (node_at net x) e))

pub dead_drives : (net : Net) (gate x : ℕ) → is_live net gate ≡ false → is_among x (drivers_of net gate) ≡ false
dead_drives net gate x e = ap (λ o. is_among x (drivers_in o)) (absent (node_at net gate) e)

pub dead_before : (net : Net) (gate x n : ℕ) → is_live net gate ≡ false → is_among x (take n (drivers_of net gate)) ≡ false
dead_before net gate x n e = ap (λ o. is_among x (take n (drivers_in o))) (absent (node_at net gate) e) ∙ nothing n
  where
    nothing : (n : ℕ) → is_among x (take n []) ≡ false
    nothing zero = refl
    nothing (suc n) = refl

-- a conjunction whose first two parts hold is the third
pub met_by : (a b c : Bool) → a ≡ true → b ≡ true → (a && (b && c)) ≡ c
met_by a b c e f = rw (e, f) refl
