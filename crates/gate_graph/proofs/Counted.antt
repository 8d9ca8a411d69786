-- Counts over the nodes of a net.
use Rattle.std.proofs.Common.{◌≡◌, ◌≢◌, ℕ, zero, suc, ◌+◌, ◌<◌, ◌≤◌, inl, inr, List, [], ◌∷◌, length, Option, Some, None, refl, sym, ap, ◌∙◌, arith}
use Rattle.std.specs.Prelude.{slice_get, sum_by}
use Rattle.std.specs.FinSet as finset
use Rattle.std.proofs.lemmas.Bool.{cases_lt, ne_eqb}
use Rattle.std.proofs.lemmas.List.{length-map}
use Rattle.std.proofs.lemmas.List.Sums.{sum_by-cons}
use Rattle.gate_net.specs.declared.Kind.{Kind}
use Rattle.gate_net.specs.declared.Kind.TheVariants.{Source, Zero, One, And, Or, Not, Xor}
use Rattle.gate_net.specs.Net.{Node, flatten_option, drivers_in, kind_in, count_in, source_in, gate_in, source_count, gate_count, wire_count}
use Rattle.pin_pool.proofs.Public.{no-pins-from, pins-few, pins-more}
use Rattle.pin_pool.specs.Pins.{Pins, list_of}
use Rattle.pin_pool.specs.Rings.{AreRings, rings_of}
use Rattle.gate_graph.specs.Wirings.{IsShaped, kind_at, free_in}
use Rattle.gate_graph.specs.Circuit.{Circuit, wiring, net_of, gate_pins, home}
use Rattle.gate_graph.specs.Inner.Circuit.{IsGraph}
use Rattle.pin_pool.specs.Totals.{pins_from}
use Rattle.gate_graph.specs.Inner.Totals.{sum_kinds}
use Rattle.gate_graph.proofs.NetOf.{observed-net}
use Rattle.gate_graph.proofs.Pinned.{drivers-all}
use Rattle.gate_graph.proofs.Formed.{kind_of-net, sources-net}
use Rattle.gate_graph.proofs.Bounded.{bound-within}

-- SOURCES
pub sources-are : (v : Circuit) → IsShaped (wiring v) → (n : ℕ) → ((k : ℕ) → k < n → kind_at v.kinds (2 + k) ≡ Some Source) → kind_at v.kinds (2 + n) ≢ Some Source → n ≡ source_count (net_of v)
sources-are v s n all end = elim (cases_lt n s.sources) [
  | inl less ↦ absurd (end (s.first.source_is n less))
  | inr ge ↦ elim (cases_lt s.sources n) [
    | inl more ↦ (let at = s.first.only_source (2 + s.sources) (all s.sources more) in let wrong = at.1 in absurd (omega (arith, wrong)))
    | inr le ↦ omega (arith, sources-net v s)
  ]
]

-- the last of so many is a source, and the next is none
pub sources-ended : (v : Circuit) → IsShaped (wiring v) → (n : ℕ) → ((k : ℕ) → k + 1 ≡ n → kind_at v.kinds (2 + k) ≡ Some Source) → kind_at v.kinds (2 + n) ≢ Some Source → n ≡ source_count (net_of v)
sources-ended v s n last end = elim (cases_lt n s.sources) [
  | inl less ↦ absurd (end (s.first.source_is n less))
  | inr ge ↦ elim (cases_lt s.sources n) [
    | inl more ↦ by n refl more
    | inr le ↦ omega (arith, sources-net v s)
  ]
]
  where
    by : (m : ℕ) → m ≡ n → s.sources < m → n ≡ source_count (net_of v)
    by zero e more = absurd (omega arith)
    by (suc k) e more = let at = s.first.only_source (2 + k) (last k (omega (arith, e))) in let wrong = at.1 in absurd (omega (arith, wrong))

-- KINDS
count-kind : (o : Option Node) (p : Option Kind) (f : Kind → ℕ) (rest : ℕ) (ks : List (Option Kind)) → kind_in o ≡ p → rest ≡ sum_kinds f ks → count_in o f + rest ≡ sum_kinds f (p ∷ ks)
count-kind None None f rest ks e h = omega (arith, h)
count-kind None (Some k) f rest ks e h = cc
count-kind (Some n) None f rest ks e h = cc
count-kind (Some n) (Some k) f rest ks e h = let is : n.kind ≡ k = cc in rw (is, h) refl

none-counted : (ks : List (Option Kind)) (f : Kind → ℕ) → ((n : ℕ) → kind_at ks n ≡ None) → sum_kinds f ks ≡ 0
none-counted [] f h = refl
none-counted (None ∷ ks) f h = none-counted ks f (λ n. h (suc n))
none-counted (Some k ∷ ks) f h = let wrong : Some k ≡ None = h 0 in cc

sum-nodes : (xs : List (Option Node)) (ks : List (Option Kind)) (f : Kind → ℕ) → ((n : ℕ) → kind_in (flatten_option (slice_get xs n)) ≡ kind_at ks n) → sum_by (λ (o : Option Node). count_in o f) xs ≡ sum_kinds f ks
sum-nodes [] ks f h = sym (none-counted ks f (λ n. sym (h n)))
sum-nodes (x ∷ xs) [] f h =
    let here : kind_in x ≡ None = h 0 in
    sum_by-cons (λ (o : Option Node). count_in o f) x xs ∙ count-kind x None f _ [] here (sum-nodes xs [] f (λ n. h (suc n)))
sum-nodes (x ∷ xs) (k ∷ ks) f h =
    let here : kind_in x ≡ k = h 0 in
    sum_by-cons (λ (o : Option Node). count_in o f) x xs ∙ count-kind x k f _ ks here (sum-nodes xs ks f (λ n. h (suc n)))

-- neither constant
abbrev IsVaried : Option Kind → Type 0
IsVaried o = (o ≢ Some Zero) × (o ≢ Some One)

one-each : (k : Kind) → k ≢ Zero → k ≢ One → source_in k + gate_in k ≡ 1
one-each Source a b = refl
one-each Zero a b = absurd (a refl)
one-each One a b = absurd (b refl)
one-each And a b = refl
one-each Or a b = refl
one-each Not a b = refl
one-each Xor a b = refl

varied-count : (ks : List (Option Kind)) → ((n : ℕ) → IsVaried (kind_at ks n)) → sum_kinds source_in ks + sum_kinds gate_in ks + free_in ks ≡ length ks
varied-count [] h = refl
varied-count (None ∷ ks) h = omega (arith, varied-count ks (λ n. h (suc n)))
varied-count (Some k ∷ ks) h =
    let here : IsVaried (Some k) = h 0 in
    let one = one-each k (λ is. here.0 (ap (λ (j : Kind). Some j) is)) (λ is. here.1 (ap (λ (j : Kind). Some j) is)) in
    omega (arith, one, varied-count ks (λ n. h (suc n)))

constants-count : (ks : List (Option Kind)) → kind_at ks 0 ≡ Some Zero → kind_at ks 1 ≡ Some One → ((n : ℕ) → IsVaried (kind_at ks (suc (suc n)))) → 2 + (sum_kinds source_in ks + sum_kinds gate_in ks + free_in ks) ≡ length ks
constants-count [] a b h = cc
constants-count (x ∷ []) a b h = cc
constants-count (x ∷ y ∷ ks) a b h =
    let here : x ≡ Some Zero = a in
    let next : y ≡ Some One = b in
    rw (here, next) (omega (arith, varied-count ks h))

pub numbers-are : (v : Circuit) → IsShaped (wiring v) → 2 + (source_count (net_of v) + gate_count (net_of v) + free_in v.kinds) ≡ length v.kinds
numbers-are v s =
    let sources = sum-nodes (net_of v).nodes v.kinds source_in (kind_of-net v) in
    let gates = sum-nodes (net_of v).nodes v.kinds gate_in (kind_of-net v) in
    let all = constants-count v.kinds s.zero_is s.one_is (λ n. (λ e. (let is = s.first.only_zero (suc (suc n)) e in absurd (omega (arith, is))), λ e. (let is = s.first.only_one (suc (suc n)) e in absurd (omega (arith, is))))) in
    omega (arith, sources, gates, all)

-- PINS
sum-pins : (xs : List (Option Node)) (f : ℕ → List ℕ) (first n : ℕ) → length xs ≤ n → ((k m : ℕ) → m ≡ first + k → length (f m) ≡ length (drivers_in (flatten_option (slice_get xs k)))) → sum_by (λ (o : Option Node). length (drivers_in o)) xs ≡ pins_from f first n
sum-pins [] f first n le h = sym (no-pins-from f first n (λ k m e. h k m e))
sum-pins (x ∷ xs) f first zero le h = absurd (omega arith)
sum-pins (x ∷ xs) f first (suc n) le h =
    let here : length (f first) ≡ length (drivers_in x) = h 0 first (omega arith) in
    let rest = sum-pins xs f (suc first) n (omega arith) (λ k m e. h (suc k) m (omega arith)) in
    sum_by-cons (λ (o : Option Node). length (drivers_in o)) x xs ∙ omega (arith, here, rest)

pub wires-are : (v : Circuit) → IsShaped (wiring v) → wire_count (net_of v) ≡ pins_from (gate_pins v.pool) 0 (length v.kinds)
wires-are v s = sum-pins (net_of v).nodes (gate_pins v.pool) 0 (length v.kinds) (bound-within v) (λ k m e. (
    let is : m ≡ k = omega arith in
    ap (λ (n : ℕ). length (gate_pins v.pool n)) is ∙ sym (ap length (drivers-all v s k) ∙ length-map (gate_pins v.pool k) (home v.pool.fanouts))))

pub same-pins : (v : Pins) (first n : ℕ) → 0 < first → pins_from (gate_pins v) first n ≡ pins_from (λ m. list_of v.inputs m) first n
same-pins v first zero h = refl
same-pins v first (suc n) h =
    let here : gate_pins v first ≡ list_of v.inputs first = rw (ne_eqb first 0 (λ is. absurd (omega (arith, is)))) refl in
    let rest = same-pins v (suc first) n (omega arith) in
    rw (here, rest) refl

-- the observed places and the pins of gates together
pub all-pins : (v : Pins) (n : ℕ) → AreRings (rings_of v) → length (list_of v.inputs 0) + pins_from (gate_pins v) 0 n ≤ finset.len v.taken
all-pins v zero r = let one = pins-few v r 0 1 in omega (arith, one)
all-pins v (suc n) r =
    let all = pins-few v r 0 (suc n) in
    let same = same-pins v 1 n (omega arith) in
    omega (arith, all, same)

pub wires-few : (v : Circuit) → AreRings (rings_of v.pool) → IsShaped (wiring v) → wire_count (net_of v) + length (net_of v).observed ≤ finset.len v.pool.taken
wires-few v r s =
    let observed = ap length (observed-net v) ∙ length-map (list_of v.pool.inputs 0) (home v.pool.fanouts) in
    omega (arith, wires-are v s, observed, all-pins v.pool (length v.kinds) r)

-- the pins counted so far and those of one gate more
pub count-room : (v : Circuit) → AreRings (rings_of v.pool) → (k : ℕ) → k ≢ 0 → pins_from (gate_pins v.pool) 0 k + length (list_of v.pool.inputs k) ≤ finset.len v.pool.taken
count-room v r k ne =
    let more = pins-more (gate_pins v.pool) 0 k in
    let here : gate_pins v.pool (0 + k) ≡ list_of v.pool.inputs k = (let e : 0 + k ≡ k = omega arith in rw e (rw (ne_eqb k 0 ne) refl)) in
    omega (arith, more, ap length here, all-pins v.pool (k + 1) r)

pub pins-next : (v : Pins) (k : ℕ) → k ≢ 0 → pins_from (gate_pins v) 0 (k + 1) ≡ pins_from (gate_pins v) 0 k + length (list_of v.inputs k)
pins-next v k ne =
    let here : gate_pins v (0 + k) ≡ list_of v.inputs k = (let e : 0 + k ≡ k = omega arith in rw e (rw (ne_eqb k 0 ne) refl)) in
    pins-more (gate_pins v) 0 k ∙ ap (λ (l : List ℕ). pins_from (gate_pins v) 0 k + length l) here

pub live-numbers : (v : Circuit) → IsShaped (wiring v) → 2 ≤ length v.kinds
live-numbers v s = omega (arith, numbers-are v s)

-- there is room for the observed places
pub nodes-there : (v : Circuit) → IsGraph v → 0 < length v.pool.inputs
nodes-there v g = omega (arith, live-numbers v g.wired.shape, g.room)
