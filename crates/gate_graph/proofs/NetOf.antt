-- The net of a circuit, by number.
use Rattle.std.proofs.Common.{◌≡◌, ◌≢◌, ℕ, zero, suc, ◌+◌, ◌<◌, ◌≤◌, Bool, true, List, [], ◌∷◌, length, map, set, Option, Some, None, refl, sym, ap, ◌∙◌, arith, inl, inr}
use Rattle.std.specs.Prelude.{slice_get}
use Rattle.std.proofs.lemmas.Bool.{cases_eq, cases_lt, ne_eqb, eq-eqb, cases_Bool}
use Rattle.std.proofs.lemmas.Bool.Decides.{nat_tests}
use Rattle.std.proofs.lemmas.List.{get_or_past}
use Rattle.gate_net.specs.declared.Kind.{Kind}
use Rattle.gate_net.specs.Net.{Node, Net, flatten_option, node_at, drivers_of, drivers_in}
use Rattle.gate_net.specs.Edits.{with_drivers, with_node, redriven}
use Rattle.pin_pool.specs.Ring.{has}
use Rattle.pin_pool.specs.Pins.{list_of}
use Rattle.pin_pool.specs.Rings.{AreOnce}
use Rattle.gate_graph.specs.Wirings.{kind_at}
use Rattle.gate_net.specs.Net.{trimmed, before_dead}
use Rattle.gate_graph.specs.Circuit.{Circuit, net_of, node_in, node_with, gate_pins, home, number_with, number_or_zero, each_from}
use Rattle.gate_net.proofs.Public.{with_node-other, with_node-there}

before-get : (x : Option Node) (ys : List (Option Node)) (n : ℕ) → flatten_option (slice_get (before_dead x ys) n) ≡ flatten_option (slice_get (x ∷ ys) n)
before-get None [] zero = refl
before-get None [] (suc n) = refl
before-get None (y ∷ ys) n = refl
before-get (Some x) ys n = refl

flat-trimmed : (xs : List (Option Node)) (n : ℕ) → flatten_option (slice_get (trimmed xs) n) ≡ flatten_option (slice_get xs n)
flat-trimmed [] n = refl
flat-trimmed (x ∷ xs) zero = before-get x (trimmed xs) 0
flat-trimmed (x ∷ xs) (suc n) = before-get x (trimmed xs) (suc n) ∙ flat-trimmed xs n

trimmed-ext : (xs ys : List (Option Node)) → ((n : ℕ) → flatten_option (slice_get xs n) ≡ flatten_option (slice_get ys n)) → trimmed xs ≡ trimmed ys
trimmed-ext [] [] h = refl
trimmed-ext [] (y ∷ ys) h = rw (← h 0, ← trimmed-ext [] ys (λ n. h (suc n))) refl
trimmed-ext (x ∷ xs) [] h = rw (h 0, trimmed-ext xs [] (λ n. h (suc n))) refl
trimmed-ext (x ∷ xs) (y ∷ ys) h = rw (h 0, trimmed-ext xs ys (λ n. h (suc n))) refl

trimmed-trimmed : (xs : List (Option Node)) → trimmed (trimmed xs) ≡ trimmed xs
trimmed-trimmed xs = trimmed-ext (trimmed xs) xs (flat-trimmed xs)

pub rest-trimmed : (x : Option Node) (ys xs : List (Option Node)) → before_dead x ys ≡ x ∷ xs → ys ≡ xs
rest-trimmed None [] xs e = cc
rest-trimmed None (y ∷ ys) xs e = cc
rest-trimmed (Some x) ys xs e = cc

before-set : (x : Option Node) (xs : List (Option Node)) (i : ℕ) (z : Option Node) → before_dead x xs ≡ x ∷ xs → before_dead x (set xs i z) ≡ x ∷ set xs i z
before-set None [] i z e = cc
before-set None (y ∷ ys) zero z e = refl
before-set None (y ∷ ys) (suc i) z e = refl
before-set (Some x) xs i z e = refl

trimmed-set : (xs : List (Option Node)) (i : ℕ) (y : Node) → trimmed xs ≡ xs → trimmed (set xs i (Some y)) ≡ set xs i (Some y)
trimmed-set [] i y e = refl
trimmed-set (x ∷ xs) zero y e = ap (λ (l : List (Option Node)). Some y ∷ l) (rest-trimmed x (trimmed xs) xs e)
trimmed-set (x ∷ xs) (suc i) y e =
    let rest : trimmed xs ≡ xs = rest-trimmed x (trimmed xs) xs e in
    ap (before_dead x) (trimmed-set xs i y rest) ∙ before-set x xs i (Some y) (sym (ap (before_dead x) rest) ∙ e)

each-at : (f : ℕ → Option Node) (first k n m : ℕ) → m ≡ first + n → n < k → slice_get (each_from f first k) n ≡ Some (f m)
each-at f first zero n m e h = absurd (omega arith)
each-at f first (suc k) zero m e h = let is : m ≡ first = omega arith in rw is refl
each-at f first (suc k) (suc n) m e h = each-at f (suc first) k n m (omega arith) (omega arith)

each-past : (f : ℕ → Option Node) (first k n : ℕ) → k ≤ n → slice_get (each_from f first k) n ≡ None
each-past f first zero n h = refl
each-past f first (suc k) zero h = absurd (omega arith)
each-past f first (suc k) (suc n) h = each-past f (suc first) k n (omega arith)

each-flat : (v : Circuit) (n : ℕ) → flatten_option (slice_get (each_from (node_in v) 0 (length v.kinds)) n) ≡ node_in v n
each-flat v n = elim (cases_lt n (length v.kinds)) [
  | inl lt ↦ ap flatten_option (each-at (node_in v) 0 (length v.kinds) n n (omega arith) lt)
  | inr le ↦
      ap flatten_option (each-past (node_in v) 0 (length v.kinds) n le)
      ∙ ap (λ (k : Option Kind). node_with k (map (home v.pool.fanouts) (gate_pins v.pool n))) (sym (get_or_past v.kinds n None le))
]

pub node_at-net : (v : Circuit) (n : ℕ) → node_at (net_of v) n ≡ node_in v n
unfolding net_of
node_at-net v n = flat-trimmed (each_from (node_in v) 0 (length v.kinds)) n ∙ each-flat v n

pub observed-net : (v : Circuit) → (net_of v).observed ≡ map (home v.pool.fanouts) (list_of v.pool.inputs 0)
unfolding net_of
observed-net v = refl

pub nodes-trimmed : (v : Circuit) → trimmed (net_of v).nodes ≡ (net_of v).nodes
unfolding net_of
nodes-trimmed v = trimmed-trimmed (each_from (node_in v) 0 (length v.kinds))

same-net : (a b : Net) → a.nodes ≡ b.nodes → a.observed ≡ b.observed → a ≡ b
same-net a b e f = λ i. record { nodes = e i; observed = f i }

-- a net without dead nodes at the end is told by its nodes
pub net-ext : (v : Circuit) (net : Net) → trimmed net.nodes ≡ net.nodes → ((n : ℕ) → node_in v n ≡ node_at net n) → map (home v.pool.fanouts) (list_of v.pool.inputs 0) ≡ net.observed → net_of v ≡ net
unfolding net_of
net-ext v net t each o =
    same-net _ net (trimmed-ext (each_from (node_in v) 0 (length v.kinds)) net.nodes (λ n. each-flat v n ∙ each n) ∙ t) o

pub number-is : (lists : List (List ℕ)) (p n : ℕ) → has p (list_of lists n) ≡ true → ((m : ℕ) → has p (list_of lists m) ≡ true → m ≡ n) → number_with lists p ≡ Some n
number-is [] p n h one = cc
number-is (xs ∷ lists) p zero h one = rw h refl
number-is (xs ∷ lists) p (suc n) h one = elim (cases_Bool (has p xs)) [
  | inl here ↦ let wrong : 0 ≡ suc n = one 0 here in absurd (omega arith)
  | inr out ↦ rw (out, number-is lists p n h (λ m k. let e : suc m ≡ suc n = one (suc m) k in omega arith)) refl
]

pub home-here : (lists : List (List ℕ)) (taken : ℕ → Bool) (p n : ℕ) → AreOnce (λ n. list_of lists n) taken → has p (list_of lists n) ≡ true → home lists p ≡ n
home-here lists taken p n once h = ap number_or_zero (number-is lists p n h (λ m k. once.one m n p k h))

pub map-same : {A : Type 0} (f g : ℕ → A) (xs : List ℕ) → ((q : ℕ) → has q xs ≡ true → f q ≡ g q) → map f xs ≡ map g xs
map-same f g [] h = refl
map-same f g (x ∷ xs) h =
    let here : has x (x ∷ xs) ≡ true = rw (eq-eqb x x refl) refl in
    rw (h x here, map-same f g xs (λ q k. h q (grind (arith, nat_tests)))) refl

-- the node that a circuit has at a live number other than 0
pub node-there : (v : Circuit) (g : ℕ) (kind : Kind) → g ≢ 0 → kind_at v.kinds g ≡ Some kind → node_at (net_of v) g ≡ Some (record { kind = kind; drivers = map (home v.pool.fanouts) (list_of v.pool.inputs g) })
node-there v g kind ne e = node_at-net v g ∙ rw (e, ne_eqb g 0 ne) refl

pub drivers-there : (v : Circuit) (g : ℕ) (kind : Kind) → g ≢ 0 → kind_at v.kinds g ≡ Some kind → drivers_of (net_of v) g ≡ map (home v.pool.fanouts) (list_of v.pool.inputs g)
drivers-there v g kind ne e = ap drivers_in (node-there v g kind ne e)

-- what differs between two circuits is the node of one gate
pub net-node : (v w : Circuit) (g : ℕ) (kind kind' : Kind) (drivers : List ℕ) → g ≢ 0 → kind_at v.kinds g ≡ Some kind → kind_at w.kinds g ≡ Some kind' → ((n : ℕ) → n ≢ g → kind_at w.kinds n ≡ kind_at v.kinds n) → ((n : ℕ) → n ≢ g → map (home w.pool.fanouts) (list_of w.pool.inputs n) ≡ map (home v.pool.fanouts) (list_of v.pool.inputs n)) → map (home w.pool.fanouts) (list_of w.pool.inputs g) ≡ drivers → net_of w ≡ with_node (net_of v) g (record { kind = kind'; drivers = drivers })
net-node v w g kind kind' drivers ne was live kinds others there =
    let old = node-there v g kind ne was in
    let new : Node = record { kind = kind'; drivers = drivers } in
    net-ext w (with_node (net_of v) g new) (trimmed-set (net_of v).nodes g new (nodes-trimmed v))
    (λ n. elim (cases_eq n g) [
      | inl e ↦ rw e (rw (live, ne_eqb g 0 ne, there) (sym (with_node-there (net_of v) g new _ old)))
      | inr ne' ↦ node-other n ne' ∙ sym (node_at-net v n) ∙ sym (with_node-other (net_of v) g new n ne')
    ])
    (others 0 (λ e. ne (sym e)) ∙ sym (observed-net v))
  where
    node-other : (n : ℕ) → n ≢ g → node_in w n ≡ node_in v n
    node-other n ne' = elim (cases_eq n 0) [
      | inl e ↦ let k = kinds n ne' in rw (k, e) refl
      | inr e ↦ let k = kinds n ne' in rw (k, ne_eqb n 0 e, others n ne') refl
    ]

-- or only its drivers
pub net-with : (v w : Circuit) (g : ℕ) (kind : Kind) (drivers : List ℕ) → g ≢ 0 → kind_at v.kinds g ≡ Some kind → ((n : ℕ) → kind_at w.kinds n ≡ kind_at v.kinds n) → ((n : ℕ) → n ≢ g → map (home w.pool.fanouts) (list_of w.pool.inputs n) ≡ map (home v.pool.fanouts) (list_of v.pool.inputs n)) → map (home w.pool.fanouts) (list_of w.pool.inputs g) ≡ drivers → net_of w ≡ with_drivers (net_of v) g drivers
net-with v w g kind drivers ne live kinds others there =
    net-node v w g kind kind drivers ne live (kinds g ∙ live) (λ n other. kinds n) others there
    ∙ ap (λ (o : Option Node). let x : Net = record (net_of v) { nodes = set (net_of v).nodes g o } in x) (sym (ap (redriven drivers) (node-there v g kind ne live)))
