-- Gating Ands on the next numbers, one after another.
use Rattle.std.proofs.Common.{List, [], ap, append_assoc, arith, drop, length, map, refl, subst, suc, sym, true, ℕ, ◌++◌, ◌+◌, ◌<◌, ◌∙◌, ◌∷◌, ◌≡◌, ◌≤◌, Bool, inl, inr}
use Rattle.std.specs.Prelude.{Option, Some, slice_get, slice_index_or, ◌||◌}
use Rattle.std.proofs.lemmas.Bool.Decides.{eqb_tells}
use Rattle.std.proofs.lemmas.List.{append-nil, length-map, map-append}
use Rattle.std.proofs.lemmas.List.Sums.{sum_by-cons}
use Rattle.std.proofs.lemmas.Option.{slice_get_within}
use Rattle.gate_net.specs.Net.{IsLive, Net, Node, drivers_in, flatten_option, wire_count}
use Rattle.joined_nets.specs.Growing.{Fits, IsSmall, and_gate, live, wires_in, with_nodes}
use Rattle.joined_nets.specs.Joined.{both}
use Rattle.joined_nets.proofs.Public.{both_length, both_wires, fits_first, length_with, wires_with, with_both, with_none}
use Rattle.pin_pool.specs.Ring.{has}
use Rattle.rm_base.proofs.Public.{drop_end, drop_stands, some_is}
use Rattle.rm_base.specs.declared.numbers.NodeId.{NodeId}
use Rattle.care_opt.specs.Gated.{care_node, gated_net, gates_by, numbers_from}
use Rattle.care_opt.proofs.Extracted.{number_found}

pub two_below : (d x y size : ℕ) → x < size → y < size → has d (x ∷ y ∷ []) ≡ true → d < size
two_below d x y size lt less e = elim (eqb_tells d x) [
  | inl same ↦ let is : d ≡ x = same.1 in omega (arith, is, lt)
  | inr other ↦ elim (eqb_tells d y) [
    | inl same ↦ let is : d ≡ y = same.1 in omega (arith, is, less)
    | inr none ↦
        let rest : has d (y ∷ []) ≡ true = ap (λ (b : Bool). b || has d (y ∷ [])) (sym other.0) ∙ e in
        let bad : has d [] ≡ true = ap (λ (b : Bool). b || has d []) (sym none.0) ∙ rest in absurd cc
  ]
]

module _ (xs : List NodeId) (k care : ℕ) (x : NodeId) (mine : slice_get xs k ≡ Some x) where
  abbrev numbers : List NodeId → List ℕ
  numbers ns = map (λ (n : NodeId). n.0) ns

  abbrev later : List ℕ
  later = numbers (drop (suc k) xs)

  next_is : numbers (drop k xs) ≡ x.0 ∷ later
  next_is = ap (λ (l : List NodeId). numbers l) (drop_stands xs k x mine)

  one_more : numbers (drop (k + 1) xs) ≡ later
  one_more = let same : k + 1 ≡ suc k = omega arith in ap (λ (i : ℕ). numbers (drop i xs)) same

  module _ (v target : Net) (left : with_nodes v (live (gates_by care (numbers (drop k xs)))) ≡ target) where
    all_is : with_nodes v (live (gates_by care (x.0 ∷ later))) ≡ target
    all_is = sym (ap (λ (l : List ℕ). with_nodes v (live (gates_by care l))) next_is) ∙ left

    pub gate_fits : Fits target → Fits (with_nodes v (Some (and_gate x.0 care) ∷ []))
    gate_fits fits = fits_first v (Some (and_gate x.0 care) ∷ []) (live (gates_by care later)) (subst (λ (n : Net). Fits n) (sym all_is) fits)

    module _ (w : Net) (made : w ≡ with_nodes v (Some (and_gate x.0 care) ∷ [])) where
      pub gate_longer : length w.nodes ≡ suc (length v.nodes)
      gate_longer = let size = ap (λ (n : Net). length n.nodes) made ∙ length_with v (Some (and_gate x.0 care) ∷ []) in omega (arith, size)

      pub gate_step : with_nodes w (live (gates_by care (numbers (drop (k + 1) xs)))) ≡ target
      gate_step =
          ap (λ (l : List ℕ). with_nodes w (live (gates_by care l))) one_more
          ∙ (ap (λ (n : Net). with_nodes n (live (gates_by care later))) made
          ∙ (with_both v (Some (and_gate x.0 care) ∷ []) (live (gates_by care later)) ∙ all_is))

      pub numbers_step : (before after : List NodeId) (gate : NodeId) (all : List ℕ) → after ≡ before ++ gate ∷ [] → gate.0 ≡ length v.nodes
          → numbers before ++ numbers_from (length v.nodes) (numbers (drop k xs)) ≡ all → numbers after ++ numbers_from (length w.nodes) (numbers (drop (k + 1) xs)) ≡ all
      numbers_step before after gate all pushed is so_far =
          ap (λ (l : List NodeId). numbers l ++ numbers_from (length w.nodes) (numbers (drop (k + 1) xs))) pushed
          ∙ (ap (λ (l : List ℕ). numbers (before ++ gate ∷ []) ++ l) (ap (λ (l : List ℕ). numbers_from (length w.nodes) l) one_more ∙ ap (λ (i : ℕ). numbers_from i later) gate_longer)
          ∙ (ap (λ (l : List ℕ). l ++ numbers_from (suc (length v.nodes)) later) (map-append (λ (n : NodeId). n.0) before (gate ∷ []))
          ∙ (append_assoc (numbers before) (gate.0 ∷ []) (numbers_from (suc (length v.nodes)) later)
          ∙ (ap (λ (i : ℕ). numbers before ++ (i ∷ numbers_from (suc (length v.nodes)) later)) is
          ∙ (ap (λ (l : List ℕ). numbers before ++ numbers_from (length v.nodes) l) (sym next_is) ∙ so_far)))))

pub gates_end : (v : Net) (care : ℕ) (xs : List NodeId) (k : ℕ) → length xs ≤ k → with_nodes v (live (gates_by care (map (λ (n : NodeId). n.0) (drop k xs)))) ≡ v
gates_end v care xs k le = ap (λ (l : List NodeId). with_nodes v (live (gates_by care (map (λ (n : NodeId). n.0) l)))) (drop_end xs k le) ∙ with_none v

pub numbers_end : (before : List ℕ) (next : ℕ) (xs : List NodeId) (k : ℕ) → length xs ≤ k → before ++ numbers_from next (map (λ (n : NodeId). n.0) (drop k xs)) ≡ before
numbers_end before next xs k le = ap (λ (l : List NodeId). before ++ numbers_from next (map (λ (n : NodeId). n.0) l)) (drop_end xs k le) ∙ append-nil before

-- one more node is observed
pub seen_step : (xs : List NodeId) (k : ℕ) (x : NodeId) (before after all : List ℕ) → slice_get xs k ≡ Some x → after ≡ before ++ x.0 ∷ [] → before ++ map (λ (n : NodeId). n.0) (drop k xs) ≡ all
    → after ++ map (λ (n : NodeId). n.0) (drop (k + 1) xs) ≡ all
seen_step xs k x before after all at pushed so_far =
    let same : k + 1 ≡ suc k = omega arith in
    ap (λ (l : List ℕ). l ++ map (λ (n : NodeId). n.0) (drop (k + 1) xs)) pushed
    ∙ (ap (λ (i : ℕ). (before ++ x.0 ∷ []) ++ map (λ (n : NodeId). n.0) (drop i xs)) same
    ∙ (append_assoc before (x.0 ∷ []) (map (λ (n : NodeId). n.0) (drop (suc k) xs))
    ∙ (ap (λ (l : List NodeId). before ++ map (λ (n : NodeId). n.0) l) (sym (drop_stands xs k x at)) ∙ so_far)))

pub seen_end : (xs : List NodeId) (k : ℕ) (before all : List ℕ) → length xs ≤ k → before ++ map (λ (n : NodeId). n.0) (drop k xs) ≡ all → before ≡ all
seen_end xs k before all le so_far = sym (append-nil before) ∙ (ap (λ (l : List NodeId). before ++ map (λ (n : NodeId). n.0) l) (sym (drop_end xs k le)) ∙ so_far)

pub live_still : (v w : Net) (x : ℕ) → w.nodes ≡ v.nodes → IsLive v x → IsLive w x
live_still v w x same live = (live.0, (live.1.0, ap (λ (l : List (Option Node)). flatten_option (slice_get l x)) same ∙ live.1.1))

pub nets_same : (v w : Net) → v.nodes ≡ w.nodes → v.observed ≡ w.observed → v ≡ w
nets_same v w e f = by_parts v.nodes w.nodes v.observed w.observed e f
  where
    by_parts : (xs ys : List (Option Node)) (os ps : List ℕ) → xs ≡ ys → os ≡ ps → ◌≡◌ {A = Net} (record { nodes = xs; observed = os }) (record { nodes = ys; observed = ps })
    by_parts xs ys os ps e f = rw (e, f) refl

-- two nets and a gating And for each observed place are small
module _ (one two : Net) (small : IsSmall one) (other : IsSmall two) (care : ℕ) where
  gating_wires : (xs : List ℕ) → wires_in (live (gates_by care xs)) ≡ length xs + length xs
  gating_wires [] = refl
  gating_wires (x ∷ xs) =
      let rest = gating_wires xs in
      let all = sum_by-cons (λ (o : Option Node). length (drivers_in o)) (Some (and_gate x care)) (live (gates_by care xs)) in
      omega (arith, rest, all)

  abbrev joined : Net
  joined = record { nodes = both one two; observed = [] }

  pub gated_wires : (xs : List ℕ) → length xs ≤ 4096 → wire_count (with_nodes joined (live (gates_by care xs))) ≤ 65536 + 65536 + 8192
  gated_wires xs few =
      let all = wires_with joined (live (gates_by care xs)) in
      let first = both_wires one two [] in
      let more = gating_wires xs in
      let w = small.wires in
      let x = other.wires in
      omega (arith, all, first, more, w, x, few)

  pub gated_length : (xs : List ℕ) → length xs ≤ 4096 → length (with_nodes joined (live (gates_by care xs))).nodes ≤ 66562 + 66562 + 4096
  gated_length xs few =
      let all = length_with joined (live (gates_by care xs)) in
      let first = both_length one two in
      let more = length-map (gates_by care xs) (λ (n : Node). Some n) in
      let same = length-map xs (λ (x : ℕ). and_gate x care) in
      let w = small.nodes in
      let x = other.nodes in
      omega (arith, all, first, more, same, w, x, few)

  pub gated_fits : (xs : List ℕ) → length xs ≤ 4096 → Fits (with_nodes joined (live (gates_by care xs)))
  gated_fits xs few = let w = gated_wires xs few in let n = gated_length xs few in record { pins = omega (arith, w); nodes = omega (arith, n) }

pub first_moved : (f : ℕ → ℕ) (xs : List ℕ) (x : ℕ) → Some x ≡ slice_get xs 0 → f x ≡ slice_index_or (map f xs) 0 0
first_moved f [] x e = absurd cc
first_moved f (y ∷ ys) x e = ap f (some_is x y e)

-- the same of a graph whose net is given by an equation
module _ (one two v : Net) (xs : List ℕ) (care : ℕ) (is : v ≡ record { nodes = both one two; observed = [] }) (mine : xs ≡ one.observed) (own : care ≡ care_node one two) where
  pub size_is : length v.nodes ≡ length (both one two)
  size_is = ap (λ (n : Net). length n.nodes) is

  pub fits_made : IsSmall one → IsSmall two → Fits (with_nodes v (live (gates_by care xs)))
  fits_made small other = rw (is, mine) (gated_fits one two small other care one.observed small.observed)

  module _ (w : Net) (made : w ≡ with_nodes v (live (gates_by care xs))) where
    pub wires_made : IsSmall one → IsSmall two → wire_count w ≤ 65536 + 65536 + 8192
    wires_made small other = rw (made, is, mine) (gated_wires one two small other care one.observed small.observed)

    pub length_made : IsSmall one → IsSmall two → length w.nodes ≤ 66562 + 66562 + 4096
    length_made small other = rw (made, is, mine) (gated_length one two small other care one.observed small.observed)

    pub length_more : length w.nodes ≡ length v.nodes + length xs
    length_more =
        ap (λ (n : Net). length n.nodes) made
        ∙ (length_with v (live (gates_by care xs)) ∙ ap (λ (i : ℕ). length v.nodes + i) (length-map (gates_by care xs) (λ (n : Node). Some n) ∙ length-map xs (λ (x : ℕ). and_gate x care)))

    pub gates_low : (ys : List ℕ) → ys ≡ numbers_from (length v.nodes) xs → (p x : ℕ) → slice_get ys p ≡ Some x → x < length w.nodes
    gates_low ys are p x at =
        let there = number_found (length v.nodes) xs p x (ap (λ (l : List ℕ). slice_get l p) (sym are) ∙ at) in
        let within = slice_get_within xs p there.0 there.1.0 in
        let same = there.1.1 in
        let size = length_more in
        omega (arith, within, same, size)

    pub gated_made : (ys : List ℕ) (u : Net) → ys ≡ numbers_from (length v.nodes) xs → u ≡ record w { observed = w.observed ++ ys } → u ≡ gated_net one two
    gated_made ys u are last =
        last
        ∙ (ap (λ (n : Net). let r : Net = record n { observed = n.observed ++ ys } in r) made
        ∙ (ap (λ (l : List ℕ). let r : Net = record { nodes = v.nodes ++ live (gates_by care xs); observed = v.observed ++ l } in r) are ∙ rw (is, mine, own) refl))

-- a node more of a list that is read
pub node_step : (before after : List NodeId) (left rest all : List ℕ) (x : NodeId) → after ≡ before ++ x ∷ [] → left ≡ x.0 ∷ rest → map (λ (n : NodeId). n.0) before ++ left ≡ all → map (λ (n : NodeId). n.0) after ++ rest ≡ all
node_step before after left rest all x pushed next made =
    ap (λ (l : List NodeId). map (λ (n : NodeId). n.0) l ++ rest) pushed
    ∙ (ap (λ (l : List ℕ). l ++ rest) (map-append (λ (n : NodeId). n.0) before (x ∷ []))
    ∙ (append_assoc (map (λ (n : NodeId). n.0) before) (x.0 ∷ []) rest ∙ (ap (λ (l : List ℕ). map (λ (n : NodeId). n.0) before ++ l) (sym next) ∙ made)))

numbers_length : (next : ℕ) (xs : List ℕ) → length (numbers_from next xs) ≡ length xs
numbers_length next [] = refl
numbers_length next (x ∷ xs) = ap (λ (i : ℕ). suc i) (numbers_length (suc next) xs)

pub gates_count : (gates nodes : List NodeId) (next : ℕ) → map (λ (n : NodeId). n.0) gates ≡ numbers_from next (map (λ (n : NodeId). n.0) nodes) → length gates ≡ length (map (λ (n : NodeId). n.0) nodes)
gates_count gates nodes next are = sym (length-map gates (λ (n : NodeId). n.0)) ∙ (ap (λ (l : List ℕ). length l) are ∙ numbers_length next (map (λ (n : NodeId). n.0) nodes))
