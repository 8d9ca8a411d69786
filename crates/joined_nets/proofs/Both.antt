-- The nodes of both nets, one after another.
use Rattle.std.proofs.Common.{List, [], ap, arith, drop, inl, inr, length, map, refl, subst, suc, sym, take, zero, ℕ, ◌++◌, ◌+◌, ◌-◌, ◌<◌, ◌∙◌, ◌∷◌, ◌≡◌, ◌≢◌, ◌≤◌}
use Rattle.std.specs.Prelude.{None, Option, Some, replicate, slice_get}
use Rattle.std.proofs.lemmas.Bool.{cases_lt}
use Rattle.std.proofs.lemmas.List.{length-drop, length-map, length-replicate, map-id, take-append-drop}
use Rattle.std.proofs.lemmas.List.Sums.{sum_by-cons, sum_by-take-drop}
use Rattle.gate_graph.specs.Circuit.{Circuit, live_nodes, net_of, pins_taken}
use Rattle.gate_graph.specs.Start.{first_net}
use Rattle.gate_net.specs.declared.Kind.{Kind}
use Rattle.gate_net.specs.declared.Kind.TheVariants.{One, Source, Zero}
use Rattle.gate_net.specs.Net.{IsGate, IsKind, IsLive, IsWellFormed, Net, Node, drivers_in, flatten_option, node_at, plain_node, source_count, wire_count}
use Rattle.gate_net.proofs.Public.{node_live}
use Rattle.rm_base.proofs.Public.{drop_stands, map_pointwise, stands_below}
use Rattle.joined_nets.specs.Growing.{Fits, HasNoGaps, IsSmall, IsWhole, wires_in, with_nodes}
use Rattle.joined_nets.specs.Joined.{both, first_gate, moved, node_moved}
use Rattle.joined_nets.proofs.Copied.{moved_high, moved_low}
use Rattle.joined_nets.proofs.Growing.{by_nodes, fits_first, length_with, wires_with, with_both}

-- from the first gate's number on there are gates alone
pub is_gate : (net : Net) (x : ℕ) → IsWellFormed net → HasNoGaps net → first_gate net ≤ x → x < length net.nodes → IsGate net x
is_gate net x formed no_gaps le lt = by_kind l.0 l.1
  where
    l : IsLive net x
    l = node_live net x (no_gaps x lt)

    by_kind : (kind : Kind) → IsKind net x kind → IsGate net x
    by_kind Source k = absurd (let bounds = formed.sources.only x k in let high = bounds.1 in omega (arith, high, le))
    by_kind Zero k = absurd (let is = formed.only_zero x k in omega (arith, is, le))
    by_kind One k = absurd (let is = formed.only_one x k in omega (arith, is, le))
    by_kind kind k = (kind, (k, tt))

module _ (v target net : Net) (f : Option Node → Option Node) (k : ℕ) (lt : k < length net.nodes) (left : with_nodes v (map f (drop k net.nodes)) ≡ target) where
  next_is : map f (drop k net.nodes) ≡ f (node_at net k) ∷ map f (drop (suc k) net.nodes)
  next_is =
      let o = stands_below net.nodes k lt in
      ap (λ (l : List (Option Node)). map f l) (drop_stands net.nodes k o.0 o.1)
      ∙ ap (λ (p : Option Node). f p ∷ map f (drop (suc k) net.nodes)) (sym (ap (λ (p : Option (Option Node)). flatten_option p) o.1))

  whole_is : with_nodes v ((f (node_at net k) ∷ []) ++ map f (drop (suc k) net.nodes)) ≡ target
  whole_is = by_nodes v (v.nodes ++ (f (node_at net k) ∷ map f (drop (suc k) net.nodes))) (v.nodes ++ map f (drop k net.nodes)) (ap (λ (l : List (Option Node)). v.nodes ++ l) (sym next_is)) ∙ left

  pub step_fits : Fits target → Fits (with_nodes v (f (node_at net k) ∷ []))
  step_fits h = fits_first v (f (node_at net k) ∷ []) (map f (drop (suc k) net.nodes)) (subst (λ (n : Net). Fits n) (sym whole_is) h)

  pub copy_step : (w : Net) → w ≡ with_nodes v (f (node_at net k) ∷ []) → with_nodes w (map f (drop (k + 1) net.nodes)) ≡ target
  copy_step w is =
      let one : k + 1 ≡ suc k = omega arith in
      ap (λ (i : ℕ). with_nodes w (map f (drop i net.nodes))) one
      ∙ (ap (λ (n : Net). with_nodes n (map f (drop (suc k) net.nodes))) is ∙ (with_both v (f (node_at net k) ∷ []) (map f (drop (suc k) net.nodes)) ∙ whole_is))

pub one_longer : (v w : Net) (o : Option Node) → w ≡ with_nodes v (o ∷ []) → length w.nodes ≡ length v.nodes + 1
one_longer v w o is = ap (λ (n : Net). length n.nodes) is ∙ length_with v (o ∷ [])

-- what doesn't move
pub stays : (first x : ℕ) → moved first first x ≡ x
stays first x = elim (cases_lt x first) [
  | inl low ↦ moved_low first first x low
  | inr high ↦ let is = moved_high first first x high in omega (arith, is, high)
]

pub list_stays : (first : ℕ) (xs : List ℕ) → map (moved first first) xs ≡ xs
list_stays first xs = map_pointwise (moved first first) (λ (x : ℕ). x) (stays first) xs ∙ map-id xs

node_stays : (first : ℕ) (o : Option Node) → node_moved first first o ≡ o
node_stays first None = refl
node_stays first (Some n) = ap (λ (l : List ℕ). let m : Node = record n { drivers = l } in Some m) (list_stays first n.drivers)

nodes_stay : (first : ℕ) (os : List (Option Node)) → map (node_moved first first) os ≡ os
nodes_stay first os = map_pointwise (node_moved first first) (λ (o : Option Node). o) (node_stays first) os ∙ map-id os

begins : {A : Type 0} (xs ys : List A) → ((k : ℕ) (y : A) → slice_get ys k ≡ Some y → slice_get xs k ≡ Some y) → ys ≡ take (length ys) xs
begins xs [] h = refl
begins [] (y ∷ ys) h = let bad : None ≡ Some y = h 0 y refl in absurd cc
begins (x ∷ xs) (y ∷ ys) h =
    let e : Some x ≡ Some y = h 0 y refl in
    let heads : y ≡ x = cc in
    rw (heads, sym (begins xs ys (λ k z e. h (suc k) z e))) refl

node_there : (o : Option (Option Node)) (n : Node) → flatten_option o ≡ Some n → o ≡ Some (Some n)
node_there None n e = absurd cc
node_there (Some o) n e = ap (λ (p : Option Node). Some p) e

many_at : {A : Type 0} (count k : ℕ) (x y : A) → slice_get (replicate count x) k ≡ Some y → (k < count) × (y ≡ x)
many_at zero k x y e = absurd cc
many_at (suc count) zero x y e = (omega arith, cc)
many_at (suc count) (suc k) x y e = let rest = many_at count k x y e in let lt = rest.0 in (omega (arith, lt), rest.1)

module _ (net : Net) (formed : IsWellFormed net) where
  first_nodes : (k : ℕ) (o : Option Node) → slice_get (first_net (source_count net)).nodes k ≡ Some o → slice_get net.nodes k ≡ Some o
  first_nodes zero o e = let same : plain_node Zero ≡ o = cc in node_there (slice_get net.nodes 0) (record { kind = Zero; drivers = [] }) formed.constants.zero_is ∙ ap (λ (p : Option Node). Some p) same
  first_nodes (suc zero) o e = let same : plain_node One ≡ o = cc in node_there (slice_get net.nodes 1) (record { kind = One; drivers = [] }) formed.constants.one_is ∙ ap (λ (p : Option Node). Some p) same
  first_nodes (suc (suc k)) o e =
      let there = many_at (source_count net) k (plain_node Source) o e in
      let same : 2 + k ≡ suc (suc k) = omega arith in
      node_there (slice_get net.nodes (suc (suc k))) (record { kind = Source; drivers = [] }) (subst (λ (i : ℕ). node_at net i ≡ plain_node Source) same (formed.sources.first k there.0)) ∙ ap (λ (p : Option Node). Some p) (sym there.1)

  pub first_length : length (first_net (source_count net)).nodes ≡ first_gate net
  first_length = let e = length-replicate (source_count net) (plain_node Source) in omega (arith, e)

  pub begins_so : (first_net (source_count net)).nodes ≡ take (first_gate net) net.nodes
  begins_so = begins net.nodes (first_net (source_count net)).nodes first_nodes ∙ ap (λ (i : ℕ). take i net.nodes) first_length

  -- a net is that of its sources, with its gates
  pub first_copied : with_nodes (first_net (source_count net)) (map (node_moved (first_gate net) (first_gate net)) (drop (first_gate net) net.nodes)) ≡ record { nodes = net.nodes; observed = [] }
  first_copied =
      let all : (first_net (source_count net)).nodes ++ map (node_moved (first_gate net) (first_gate net)) (drop (first_gate net) net.nodes) ≡ net.nodes =
      ap (λ (l : List (Option Node)). (first_net (source_count net)).nodes ++ l) (nodes_stay (first_gate net) (drop (first_gate net) net.nodes))
      ∙ (ap (λ (l : List (Option Node)). l ++ drop (first_gate net) net.nodes) begins_so ∙ take-append-drop (first_gate net) net.nodes) in
      by_nodes (record { nodes = []; observed = [] }) _ _ all

  pub gates_later : first_gate net ≤ length net.nodes
  gates_later =
      let all : length (with_nodes (first_net (source_count net)) (map (node_moved (first_gate net) (first_gate net)) (drop (first_gate net) net.nodes))).nodes ≡ length net.nodes = ap (λ (n : Net). length n.nodes) first_copied in
      let parts = length_with (first_net (source_count net)) (map (node_moved (first_gate net) (first_gate net)) (drop (first_gate net) net.nodes)) in
      let first = first_length in
      omega (arith, all, parts, first)

-- a new graph is whole
no_wires : (count : ℕ) → wires_in (replicate count (plain_node Source)) ≡ 0
no_wires zero = refl
no_wires (suc count) =
    let step = sum_by-cons (λ (o : Option Node). length (drivers_in o)) (plain_node Source) (replicate count (plain_node Source)) in
    let rest = no_wires count in
    omega (arith, step, rest)

first_wires : (count : ℕ) → wire_count (first_net count) ≡ 0
first_wires count =
    let zero_step = sum_by-cons (λ (o : Option Node). length (drivers_in o)) (plain_node Zero) (plain_node One ∷ replicate count (plain_node Source)) in
    let one_step = sum_by-cons (λ (o : Option Node). length (drivers_in o)) (plain_node One) (replicate count (plain_node Source)) in
    let rest = no_wires count in
    omega (arith, zero_step, one_step, rest)

first_live : (count x : ℕ) → x < length (first_net count).nodes → node_at (first_net count) x ≢ None
first_live count zero lt e = absurd cc
first_live count (suc zero) lt e = absurd cc
first_live count (suc (suc x)) lt e =
    let o = stands_below (replicate count (plain_node Source)) x (omega (arith, lt)) in
    let is = many_at count x (plain_node Source) o.0 o.1 in
    let bad : plain_node Source ≡ None = sym (ap (λ (p : Option (Option Node)). flatten_option p) o.1 ∙ is.1) ∙ e in
    absurd cc

pub first_whole : (g : Circuit) (count : ℕ) → net_of g ≡ first_net count → pins_taken g ≡ 0 → live_nodes g ≡ count + 2 → IsWhole g
first_whole g count is pins live = record {
  no_gaps = subst (λ (n : Net). HasNoGaps n) (sym is) (first_live count);
  pins = pins ∙ sym (ap (λ (n : Net). wire_count n) is ∙ first_wires count);
  numbers = live ∙ sym (ap (λ (n : Net). length n.nodes) is ∙ (let e = length-replicate count (plain_node Source) in omega (arith, e)));
}

-- the size of both nets
moved_wires : (first count : ℕ) (os : List (Option Node)) → wires_in (map (node_moved first count) os) ≡ wires_in os
moved_wires first count [] = refl
moved_wires first count (o ∷ os) =
    sum_by-cons (λ (o : Option Node). length (drivers_in o)) (node_moved first count o) (map (node_moved first count) os)
    ∙ (here o (moved_wires first count os) ∙ sym (sum_by-cons (λ (o : Option Node). length (drivers_in o)) o os))
  where
    here : (o : Option Node) → wires_in (map (node_moved first count) os) ≡ wires_in os → length (drivers_in (node_moved first count o)) + wires_in (map (node_moved first count) os) ≡ length (drivers_in o) + wires_in os
    here None e = ap (λ (i : ℕ). 0 + i) e
    here (Some n) e = let l : length (map (moved first count) n.drivers) ≡ length n.drivers = length-map n.drivers (moved first count) in rw (e, l) refl

pub both_wires : (one two : Net) (os : List ℕ) → wire_count (record { nodes = both one two; observed = os }) ≤ wire_count one + wire_count two
both_wires one two os =
    let all = wires_with one (map (node_moved (first_gate one) (length one.nodes)) (drop (first_gate one) two.nodes)) in
    let same = moved_wires (first_gate one) (length one.nodes) (drop (first_gate one) two.nodes) in
    let parts = sum_by-take-drop (λ (o : Option Node). length (drivers_in o)) two.nodes (first_gate one) in
    omega (arith, all, same, parts)

pub both_length : (one two : Net) → length (both one two) ≡ length one.nodes + (length two.nodes - first_gate one)
both_length one two =
    length_with one (map (node_moved (first_gate one) (length one.nodes)) (drop (first_gate one) two.nodes))
    ∙ ap (λ (i : ℕ). length one.nodes + i) (length-map (drop (first_gate one) two.nodes) (node_moved (first_gate one) (length one.nodes)) ∙ length-drop (first_gate one) two.nodes)

pub both_fits : (one two : Net) (os : List ℕ) → IsSmall one → IsSmall two → Fits (record { nodes = both one two; observed = os })
both_fits one two os small other =
    let wires = both_wires one two os in
    let nodes = both_length one two in
    let w = small.wires in
    let x = other.wires in
    let n = small.nodes in
    let m = other.nodes in
    record { pins = omega (arith, wires, w, x); nodes = omega (arith, nodes, n, m) }

pub one_fits : (one : Net) (os : List ℕ) → IsSmall one → Fits (record { nodes = one.nodes; observed = os })
one_fits one os small =
    let w = small.wires in
    let n = small.nodes in
    record { pins = omega (arith, w); nodes = omega (arith, n) }

-- the same of a graph whose net is given by an equation
pub made_first : (net v : Net) (k : ℕ) → IsWellFormed net → v ≡ first_net (source_count net) → k ≡ first_gate net → with_nodes v (map (node_moved k k) (drop k net.nodes)) ≡ record { nodes = net.nodes; observed = [] }
made_first net v k formed is e =
    ap (λ (n : Net). with_nodes n (map (node_moved k k) (drop k net.nodes))) is
    ∙ (ap (λ (i : ℕ). with_nodes (first_net (source_count net)) (map (node_moved i i) (drop i net.nodes))) e ∙ first_copied net formed)

pub made_both : (one two v : Net) (k count : ℕ) → v ≡ record { nodes = one.nodes; observed = [] } → k ≡ first_gate one → count ≡ length v.nodes
    → with_nodes v (map (node_moved k count) (drop k two.nodes)) ≡ record { nodes = both one two; observed = [] }
made_both one two v k count is e n =
    ap (λ (m : Net). with_nodes m (map (node_moved k count) (drop k two.nodes))) is
    ∙ (ap (λ (i : ℕ). with_nodes (record { nodes = one.nodes; observed = [] }) (map (node_moved i count) (drop i two.nodes))) e
    ∙ ap (λ (i : ℕ). with_nodes (record { nodes = one.nodes; observed = [] }) (map (node_moved (first_gate one) i) (drop (first_gate one) two.nodes))) (n ∙ ap (λ (m : Net). length m.nodes) is))
