-- How large the comparisons are, and what they read.
use Rattle.std.proofs.Common.{Bool, List, [], ap, append_assoc, arith, inl, inr, length, map, refl, subst, suc, sym, true, ℕ, ◌*◌, ◌++◌, ◌+◌, ◌-◌, ◌<◌, ◌∙◌, ◌∷◌, ◌≡◌, ◌≤◌}
use Rattle.std.specs.Prelude.{Option, Some, false, slice_get, sum_by, ◌||◌}
use Rattle.std.proofs.lemmas.Bool.{cases_lt}
use Rattle.std.proofs.lemmas.Bool.Decides.{eqb_tells}
use Rattle.std.proofs.lemmas.List.{length-append, length-map, map-append}
use Rattle.std.proofs.lemmas.List.Sums.{sum_by-append, sum_by-cons}
use Rattle.gate_net.specs.Faults.{fault_at}
use Rattle.gate_net.specs.Net.{Net, Node, drivers_in, wire_count}
use Rattle.pin_pool.specs.Ring.{has}
use Rattle.rm_base.proofs.Public.{map_found}
use Rattle.rm_base.specs.declared.numbers.NodeId.{NodeId}
use Rattle.joined_nets.specs.Growing.{Fits, IsSmall, live, wires_in, with_nodes}
use Rattle.equal_miter.specs.Inner.Tops.{tops}
use Rattle.equal_miter.specs.Laws.{AreAlike}
use Rattle.joined_nets.specs.Joined.{both, first_gate, moved, observed_moved}
use Rattle.equal_miter.specs.Miter.{compared, comparisons, differences, miter_fault, miter_of, not_gate, or_gate, some_difference}
use Rattle.joined_nets.proofs.Public.{both_length, both_wires, gates_later, length_with, live_below, moved_high, moved_low, wires_with}

compared_wires : (next : ℕ) (xs ys : List ℕ) → wires_in (live (comparisons next xs ys)) ≤ 8 * length xs
compared_wires next [] ys = omega arith
compared_wires next (x ∷ xs) [] = omega arith
compared_wires next (x ∷ xs) (y ∷ ys) =
    let rest = compared_wires (suc (suc (suc (suc (suc next))))) xs ys in
    let parts : wires_in (live (comparisons next (x ∷ xs) (y ∷ ys))) ≡ 8 + wires_in (live (comparisons (suc (suc (suc (suc (suc next))))) xs ys)) =
    sum_by-append (λ (o : Option Node). length (drivers_in o)) (live (comparisons next (x ∷ []) (y ∷ []))) (live (comparisons (suc (suc (suc (suc (suc next))))) xs ys)) in
    omega (arith, rest, parts)

compared_length : (next : ℕ) (xs ys : List ℕ) → length (live (comparisons next xs ys)) ≤ 5 * length xs
compared_length next [] ys = omega arith
compared_length next (x ∷ xs) [] = omega arith
compared_length next (x ∷ xs) (y ∷ ys) = let rest = compared_length (suc (suc (suc (suc (suc next))))) xs ys in omega (arith, rest)

tops_length : (next : ℕ) (xs ys : List ℕ) → length (differences next xs ys) ≤ length xs
tops_length next [] ys = omega arith
tops_length next (x ∷ xs) [] = omega arith
tops_length next (x ∷ xs) (y ∷ ys) = let rest = tops_length (suc (suc (suc (suc (suc next))))) xs ys in omega (arith, rest)

tops_below : (next : ℕ) (xs ys : List ℕ) (d : ℕ) → has d (differences next xs ys) ≡ true → d < next + length (comparisons next xs ys)
tops_below next [] ys d e = absurd cc
tops_below next (x ∷ xs) [] d e = absurd cc
tops_below next (x ∷ xs) (y ∷ ys) d e = elim (eqb_tells d (suc (suc (suc (suc next))))) [
  | inl same ↦ let is : d ≡ suc (suc (suc (suc next))) = same.1 in omega (arith, is)
  | inr other ↦
      let low = tops_below (suc (suc (suc (suc (suc next))))) xs ys d (ap (λ (b : Bool). b || has d (differences (suc (suc (suc (suc (suc next))))) xs ys)) (sym other.0) ∙ e) in omega (arith, low)
]

module _ (one two : Net) where
  abbrev with_places : Net
  with_places = record { nodes = both one two ++ live (compared one two); observed = [] }

  pub ours_low : AreAlike one two → (p x : ℕ) → slice_get one.observed p ≡ Some x → x < length one.nodes
  ours_low alike p x e = live_below one x (alike.first.observed_live x (p, e))

  pub theirs_low : AreAlike one two → (p x : ℕ) → slice_get two.observed p ≡ Some x → x < length two.nodes
  theirs_low alike p x e = live_below two x (alike.second.observed_live x (p, e))

  pub moved_low_enough : AreAlike one two → (p y : ℕ) → slice_get (observed_moved one two) p ≡ Some y → y < length (both one two)
  moved_low_enough alike p y e =
      let from = map_found (moved (first_gate one) (length one.nodes)) two.observed p y e in
      let low : from.0 < length two.nodes = theirs_low alike p from.0 from.1.0 in
      let size = both_length one two in
      let later = gates_later one alike.first in
      subst (λ (i : ℕ). i < length (both one two)) from.1.1
      (elim (cases_lt from.0 (first_gate one)) [
        | inl less ↦ let is = moved_low (first_gate one) (length one.nodes) from.0 less in omega (arith, is, less, later, size)
        | inr more ↦ let is = moved_high (first_gate one) (length one.nodes) from.0 more in omega (arith, is, more, low, size)
      ])

  pub size_is : length (both one two ++ live (compared one two)) ≡ some_difference one two
  size_is = length-append (both one two) (live (compared one two)) ∙ ap (λ (i : ℕ). length (both one two) + i) (length-map (compared one two) (λ (n : Node). Some n))

  pub tops_low : (d : ℕ) → has d (tops one two) ≡ true → d < length (both one two ++ live (compared one two))
  tops_low d among = let low = tops_below (length (both one two)) one.observed (observed_moved one two) d among in let size = size_is in omega (arith, low, size)

  module _ (small : IsSmall one) (other : IsSmall two) where
    places_wires : wire_count with_places ≤ 65536 + 65536 + 8 * 4096
    places_wires =
        let all = wires_with (record { nodes = both one two; observed = [] }) (live (compared one two)) in
        let first = both_wires one two [] in
        let more = compared_wires (length (both one two)) one.observed (observed_moved one two) in
        let w = small.wires in
        let x = other.wires in
        let o = small.observed in
        omega (arith, all, first, more, w, x, o)

    places_length : length with_places.nodes ≤ 66562 + 66562 + 5 * 4096
    places_length =
        let all = length_with (record { nodes = both one two; observed = [] }) (live (compared one two)) in
        let first = both_length one two in
        let more = compared_length (length (both one two)) one.observed (observed_moved one two) in
        let w = small.nodes in
        let x = other.nodes in
        let o = small.observed in
        omega (arith, all, first, more, w, x, o)

    pub places_fit : Fits with_places
    places_fit = let w = places_wires in let n = places_length in record { pins = omega (arith, w); nodes = omega (arith, n) }

    abbrev last : List Node
    last = or_gate (tops one two) ∷ not_gate (length with_places.nodes) ∷ []

    last_wires : wires_in (live last) ≡ length (tops one two) + 1
    last_wires =
        let f : Option Node → ℕ = λ (o : Option Node). length (drivers_in o) in
        sum_by-cons f (Some (or_gate (tops one two))) (live (not_gate (length with_places.nodes) ∷ []))

    pub end_fits : Fits (with_nodes with_places (live (or_gate (tops one two) ∷ not_gate (length with_places.nodes) ∷ [])))
    end_fits =
        let w = places_wires in
        let n = places_length in
        let all = wires_with with_places (live last) in
        let size = length_with with_places (live last) in
        let more = last_wires in
        let few = tops_length (length (both one two)) one.observed (observed_moved one two) in
        let o = small.observed in
        record { pins = omega (arith, w, all, more, few, o); nodes = omega (arith, n, size) }

    pub end_wires : wire_count (with_nodes with_places (live last)) ≤ 200000
    end_wires =
        let w = places_wires in
        let all = wires_with with_places (live last) in
        let more = last_wires in
        let few = tops_length (length (both one two)) one.observed (observed_moved one two) in
        let o = small.observed in
        omega (arith, w, all, more, few, o)

    pub end_nodes : length (with_nodes with_places (live last)).nodes ≤ 200000
    end_nodes = let n = places_length in let size = length_with with_places (live last) in omega (arith, n, size)

-- the same of a graph whose net is given by an equation
module _ (one two v : Net) (ls rs : List ℕ) (is : v ≡ record { nodes = both one two; observed = [] }) (mine : ls ≡ one.observed) (others : rs ≡ observed_moved one two) where
  pub places_made : with_nodes v (live (comparisons (length v.nodes) ls rs)) ≡ record { nodes = both one two ++ live (compared one two); observed = [] }
  places_made = rw (is, mine, others) refl

  pub tops_made : differences (length v.nodes) ls rs ≡ tops one two
  tops_made = rw (is, mine, others) refl

pub pairs_same : (one two : Net) (xs ys : List NodeId) → AreAlike one two → map (λ (n : NodeId). n.0) xs ≡ one.observed → map (λ (n : NodeId). n.0) ys ≡ observed_moved one two → length xs ≡ length ys
pairs_same one two xs ys alike mine others =
    sym (length-map xs (λ (n : NodeId). n.0))
    ∙ (ap (λ (l : List ℕ). length l) mine
    ∙ (alike.places
    ∙ (sym (length-map two.observed (moved (first_gate one) (length one.nodes)))
    ∙ (ap (λ (l : List ℕ). length l) (sym others) ∙ length-map ys (λ (n : NodeId). n.0)))))

module _ (one two v : Net) (ds : List ℕ) (is : v ≡ record { nodes = both one two ++ live (compared one two); observed = [] }) (are : ds ≡ tops one two) where
  pub last_fit : IsSmall one → IsSmall two → Fits (with_nodes v (live (or_gate ds ∷ not_gate (length v.nodes) ∷ [])))
  last_fit small other = rw (is, are) (end_fits one two small other)

  pub ends_below : (d : ℕ) → has d ds ≡ true → d < length v.nodes
  ends_below d among =
      let low = tops_low one two d (ap (λ (l : List ℕ). has d l) (sym are) ∙ among) in
      let size = ap (λ (n : Net). length n.nodes) is in
      omega (arith, low, size)

  nodes_are : (both one two ++ live (compared one two)) ++ live (or_gate (tops one two) ∷ not_gate (length (both one two ++ live (compared one two))) ∷ []) ≡ (miter_of one two).nodes
  nodes_are =
      append_assoc (both one two) (live (compared one two)) (live (or_gate (tops one two) ∷ not_gate (length (both one two ++ live (compared one two))) ∷ []))
      ∙ ap (λ (l : List (Option Node)). both one two ++ l)
      (ap (λ (i : ℕ). live (compared one two) ++ live (or_gate (tops one two) ∷ not_gate i ∷ [])) (size_is one two)
      ∙ sym (map-append (λ (n : Node). Some n) (compared one two) (or_gate (tops one two) ∷ not_gate (some_difference one two) ∷ [])))

  pub few_wires : IsSmall one → IsSmall two → (w : Net) → w ≡ miter_of one two → wire_count w ≤ 200000
  few_wires small other w made =
      subst (λ (n : Net). wire_count n ≤ 200000) (sym made)
      (subst (λ (l : List (Option Node)). sum_by (λ (o : Option Node). length (drivers_in o)) l ≤ 200000) nodes_are (end_wires one two small other))

  pub few_nodes : IsSmall one → IsSmall two → (w : Net) → w ≡ miter_of one two → length w.nodes ≤ 200000
  few_nodes small other w made =
      subst (λ (n : Net). length n.nodes ≤ 200000) (sym made) (subst (λ (l : List (Option Node)). length l ≤ 200000) nodes_are (end_nodes one two small other))

  by_parts : (xs ys : List (Option Node)) (k m : ℕ) → xs ≡ ys → k ≡ m → ◌≡◌ {A = Net} (record { nodes = xs; observed = suc k ∷ [] }) (record { nodes = ys; observed = suc m ∷ [] })
  by_parts xs ys k m e f = rw (e, f) refl

  whole_made : record { nodes = v.nodes ++ live (or_gate ds ∷ not_gate (length v.nodes) ∷ []); observed = v.observed ++ suc (length v.nodes) ∷ [] } ≡ miter_of one two
  whole_made = rw (is, are) (by_parts _ _ _ _ nodes_are (size_is one two))

  pub finished : (w : Net) → w ≡ record { nodes = v.nodes ++ live (or_gate ds ∷ not_gate (length v.nodes) ∷ []); observed = v.observed ++ suc (length v.nodes) ∷ [] } → w ≡ miter_of one two
  finished w made = made ∙ whole_made

  pub fault_made : (k : ℕ) → k ≡ suc (length v.nodes) → fault_at k 0 false ≡ miter_fault one two
  fault_made k e = ap (λ (i : ℕ). fault_at i 0 false) (e ∙ ap (λ (i : ℕ). suc i) (ap (λ (n : Net). length n.nodes) is ∙ size_is one two))
