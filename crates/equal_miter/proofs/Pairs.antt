-- Two gates on the next numbers, and the five that compare two nodes.
use Rattle.std.proofs.Common.{Bool, List, [], ap, append_assoc, arith, drop, inl, inr, length, map, refl, subst, suc, sym, true, ℕ, ◌++◌, ◌+◌, ◌<◌, ◌∙◌, ◌∷◌, ◌≡◌, ◌≤◌}
use Rattle.std.specs.Prelude.{Some, slice_get, ◌||◌}
use Rattle.std.proofs.lemmas.Bool.Decides.{eqb_tells}
use Rattle.std.proofs.lemmas.List.{append-nil, map-append}
use Rattle.gate_net.specs.Net.{Net, Node}
use Rattle.pin_pool.specs.Ring.{has}
use Rattle.rm_base.proofs.Public.{drop_end, drop_stands}
use Rattle.rm_base.specs.declared.numbers.NodeId.{NodeId}
use Rattle.joined_nets.specs.Growing.{Fits, and_gate, live, with_nodes}
use Rattle.equal_miter.specs.Miter.{comparisons, differences, not_gate, or_gate}
use Rattle.joined_nets.proofs.Public.{fits_first, length_with, with_both, with_none}

pub one_below : (d x size : ℕ) → x < size → has d (x ∷ []) ≡ true → d < size
one_below d x size lt e = elim (eqb_tells d x) [
  | inl same ↦ let is : d ≡ x = same.1 in omega (arith, is, lt)
  | inr other ↦ let bad : has d [] ≡ true = ap (λ (b : Bool). b || has d []) (sym other.0) ∙ e in absurd cc
]

pub two_below : (d x y size : ℕ) → x < size → y < size → has d (x ∷ y ∷ []) ≡ true → d < size
two_below d x y size lt less e = elim (eqb_tells d x) [
  | inl same ↦ let is : d ≡ x = same.1 in omega (arith, is, lt)
  | inr other ↦ one_below d y size less (ap (λ (b : Bool). b || has d (y ∷ [])) (sym other.0) ∙ e)
]

module _ (v w : Net) (g h : Node) (is : w ≡ with_nodes v (Some g ∷ [])) where
  pub two_made : (u : Net) → u ≡ with_nodes w (Some h ∷ []) → u ≡ with_nodes v (live (g ∷ h ∷ []))
  two_made u e = e ∙ (ap (λ (n : Net). with_nodes n (Some h ∷ [])) is ∙ with_both v (Some g ∷ []) (Some h ∷ []))

  pub second_fits : Fits (with_nodes v (live (g ∷ h ∷ []))) → Fits (with_nodes w (Some h ∷ []))
  second_fits fits = subst (λ (n : Net). Fits (with_nodes n (Some h ∷ []))) (sym is) (subst (λ (n : Net). Fits n) (sym (with_both v (Some g ∷ []) (Some h ∷ []))) fits)

  pub second_number : (k : ℕ) → k ≡ length w.nodes → k ≡ suc (length v.nodes)
  second_number k e = let size = ap (λ (n : Net). length n.nodes) is ∙ length_with v (Some g ∷ []) in omega (arith, e, size)

  pub still_below : (k : ℕ) → k < length v.nodes → k < length w.nodes
  still_below k lt = let size = ap (λ (n : Net). length n.nodes) is ∙ length_with v (Some g ∷ []) in omega (arith, lt, size)

pub first_fits : (v : Net) (g h : Node) → Fits (with_nodes v (live (g ∷ h ∷ []))) → Fits (with_nodes v (Some g ∷ []))
first_fits v g h fits = fits_first v (Some g ∷ []) (Some h ∷ []) fits

-- the five gates: two Nots, two Ands, and the Or
module _ (v : Net) (x y : ℕ) where
  abbrev nots : List Node
  nots = not_gate x ∷ not_gate y ∷ []

  abbrev ands : ℕ → ℕ → List Node
  ands a b = and_gate x b ∷ and_gate a y ∷ []

  abbrev next : ℕ
  next = length v.nodes

  abbrev five : List Node
  five = comparisons next (x ∷ []) (y ∷ [])

  pub nots_fit : Fits (with_nodes v (live five)) → Fits (with_nodes v (live nots))
  nots_fit fits = fits_first v (live nots) (live (and_gate x (suc next) ∷ and_gate next y ∷ or_gate (suc (suc next) ∷ suc (suc (suc next)) ∷ []) ∷ [])) fits

  module _ (w : Net) (a b : ℕ) (made : w ≡ with_nodes v (live nots)) (first : a ≡ next) (second : b ≡ suc next) where
    pub after_nots : length w.nodes ≡ suc (suc next)
    after_nots = let size = ap (λ (n : Net). length n.nodes) made ∙ length_with v (live nots) in omega (arith, size)

    ands_same : ands a b ≡ ands next (suc next)
    ands_same = rw (first, second) refl

    ands_made : (u : Net) → u ≡ with_nodes w (live (ands a b)) → u ≡ with_nodes v (live (nots ++ ands next (suc next)))
    ands_made u e = e ∙ (ap (λ (l : List Node). with_nodes w (live l)) ands_same ∙ (ap (λ (n : Net). with_nodes n (live (ands next (suc next)))) made ∙ with_both v (live nots) (live (ands next (suc next)))))

    pub ands_fit : Fits (with_nodes v (live five)) → Fits (with_nodes w (live (ands a b)))
    ands_fit fits =
        subst (λ (n : Net). Fits n) (sym (ands_made (with_nodes w (live (ands a b))) refl))
        (fits_first v (live (nots ++ ands next (suc next))) (live (or_gate (suc (suc next) ∷ suc (suc (suc next)) ∷ []) ∷ [])) fits)

    module _ (u : Net) (p q : ℕ) (made' : u ≡ with_nodes w (live (ands a b))) (third : p ≡ length w.nodes) (fourth : q ≡ suc (length w.nodes)) where
      or_same : or_gate (p ∷ q ∷ []) ≡ or_gate (suc (suc next) ∷ suc (suc (suc next)) ∷ [])
      or_same = rw (third ∙ after_nots, fourth ∙ ap (λ (i : ℕ). suc i) after_nots) refl

      pub five_made : (t : Net) → t ≡ with_nodes u (Some (or_gate (p ∷ q ∷ [])) ∷ []) → t ≡ with_nodes v (live five)
      five_made t e =
          e
          ∙ (ap (λ (n : Node). with_nodes u (Some n ∷ [])) or_same
          ∙ (ap (λ (n : Net). with_nodes n (Some (or_gate (suc (suc next) ∷ suc (suc (suc next)) ∷ [])) ∷ [])) (ands_made u made')
          ∙ with_both v (live (nots ++ ands next (suc next))) (Some (or_gate (suc (suc next) ∷ suc (suc (suc next)) ∷ [])) ∷ [])))

      pub or_fits : Fits (with_nodes v (live five)) → Fits (with_nodes u (Some (or_gate (p ∷ q ∷ [])) ∷ []))
      or_fits fits = subst (λ (n : Net). Fits n) (sym (five_made (with_nodes u (Some (or_gate (p ∷ q ∷ [])) ∷ [])) refl)) fits

      pub after_ands : length u.nodes ≡ suc (suc (suc (suc next)))
      after_ands = let size = ap (λ (n : Net). length n.nodes) made' ∙ length_with w (live (ands a b)) in let before = after_nots in omega (arith, size, before)

-- one pair of a list after another
module _ (xs ys : List NodeId) (k : ℕ) (x y : NodeId) (mine : slice_get xs k ≡ Some x) (other : slice_get ys k ≡ Some y) where
  abbrev numbers : List NodeId → List ℕ
  numbers ns = map (λ (n : NodeId). n.0) ns

  abbrev later : List NodeId → List ℕ
  later ns = numbers (drop (suc k) ns)

  both_next : (A : Type 0) (f : List ℕ → List ℕ → A) → f (numbers (drop k xs)) (numbers (drop k ys)) ≡ f (x.0 ∷ later xs) (y.0 ∷ later ys)
  both_next A f = ap (λ (l : List NodeId). f (numbers l) (numbers (drop k ys))) (drop_stands xs k x mine) ∙ ap (λ (l : List NodeId). f (x.0 ∷ later xs) (numbers l)) (drop_stands ys k y other)

  one_more : (A : Type 0) (f : List ℕ → List ℕ → A) → f (numbers (drop (k + 1) xs)) (numbers (drop (k + 1) ys)) ≡ f (later xs) (later ys)
  one_more A f = let same : k + 1 ≡ suc k = omega arith in ap (λ (i : ℕ). f (numbers (drop i xs)) (numbers (drop i ys))) same

  module _ (v target : Net) (left : with_nodes v (live (comparisons (length v.nodes) (numbers (drop k xs)) (numbers (drop k ys)))) ≡ target) where
    all_is : with_nodes v (live (comparisons (length v.nodes) (x.0 ∷ later xs) (y.0 ∷ later ys))) ≡ target
    all_is = sym (both_next Net (λ (ls rs : List ℕ). with_nodes v (live (comparisons (length v.nodes) ls rs)))) ∙ left

    pub pair_fits : Fits target → Fits (with_nodes v (live (comparisons (length v.nodes) (x.0 ∷ []) (y.0 ∷ []))))
    pair_fits fits =
        fits_first v (live (comparisons (length v.nodes) (x.0 ∷ []) (y.0 ∷ []))) (live (comparisons (suc (suc (suc (suc (suc (length v.nodes)))))) (later xs) (later ys)))
        (subst (λ (n : Net). Fits n) (sym all_is) fits)

    module _ (w : Net) (made : w ≡ with_nodes v (live (comparisons (length v.nodes) (x.0 ∷ []) (y.0 ∷ [])))) where
      pub five_more : length w.nodes ≡ suc (suc (suc (suc (suc (length v.nodes)))))
      five_more = let size = ap (λ (n : Net). length n.nodes) made ∙ length_with v (live (comparisons (length v.nodes) (x.0 ∷ []) (y.0 ∷ []))) in omega (arith, size)

      pub pair_step : with_nodes w (live (comparisons (length w.nodes) (numbers (drop (k + 1) xs)) (numbers (drop (k + 1) ys)))) ≡ target
      pair_step =
          one_more Net (λ (ls rs : List ℕ). with_nodes w (live (comparisons (length w.nodes) ls rs)))
          ∙ (ap (λ (i : ℕ). with_nodes w (live (comparisons i (later xs) (later ys)))) five_more
          ∙ (ap (λ (n : Net). with_nodes n (live (comparisons (suc (suc (suc (suc (suc (length v.nodes)))))) (later xs) (later ys)))) made
          ∙ (with_both v (live (comparisons (length v.nodes) (x.0 ∷ []) (y.0 ∷ []))) (live (comparisons (suc (suc (suc (suc (suc (length v.nodes)))))) (later xs) (later ys))) ∙ all_is)))

      pub tops_step : (before after : List NodeId) (top : NodeId) (all : List ℕ) → after ≡ before ++ top ∷ [] → top.0 ∷ [] ≡ differences (length v.nodes) (x.0 ∷ []) (y.0 ∷ [])
          → numbers before ++ differences (length v.nodes) (numbers (drop k xs)) (numbers (drop k ys)) ≡ all
          → numbers after ++ differences (length w.nodes) (numbers (drop (k + 1) xs)) (numbers (drop (k + 1) ys)) ≡ all
      tops_step before after top all pushed is so_far =
          let rest : List ℕ = differences (suc (suc (suc (suc (suc (length v.nodes)))))) (later xs) (later ys) in
          ap (λ (l : List NodeId). numbers l ++ differences (length w.nodes) (numbers (drop (k + 1) xs)) (numbers (drop (k + 1) ys))) pushed
          ∙ (ap (λ (l : List ℕ). numbers (before ++ top ∷ []) ++ l) (one_more (List ℕ) (λ (ls rs : List ℕ). differences (length w.nodes) ls rs) ∙ ap (λ (i : ℕ). differences i (later xs) (later ys)) five_more)
          ∙ (ap (λ (l : List ℕ). l ++ rest) (map-append (λ (n : NodeId). n.0) before (top ∷ []))
          ∙ (append_assoc (numbers before) (top.0 ∷ []) rest
          ∙ (ap (λ (l : List ℕ). numbers before ++ (l ++ rest)) is
          ∙ (ap (λ (l : List ℕ). numbers before ++ l) (sym (both_next (List ℕ) (λ (ls rs : List ℕ). differences (length v.nodes) ls rs))) ∙ so_far)))))

pub pairs_end : (v : Net) (xs ys : List NodeId) (k : ℕ) → length xs ≤ k → with_nodes v (live (comparisons (length v.nodes) (map (λ (n : NodeId). n.0) (drop k xs)) (map (λ (n : NodeId). n.0) (drop k ys)))) ≡ v
pairs_end v xs ys k le =
    ap (λ (l : List NodeId). with_nodes v (live (comparisons (length v.nodes) (map (λ (n : NodeId). n.0) l) (map (λ (n : NodeId). n.0) (drop k ys))))) (drop_end xs k le) ∙ (no_pairs (map (λ (n : NodeId). n.0) (drop k ys)) ∙ with_none v)
  where
    no_pairs : (bs : List ℕ) → with_nodes v (live (comparisons (length v.nodes) [] bs)) ≡ with_nodes v []
    no_pairs bs = refl

pub tops_end : (before : List ℕ) (next : ℕ) (xs ys : List NodeId) (k : ℕ) → length xs ≤ k → before ++ differences next (map (λ (n : NodeId). n.0) (drop k xs)) (map (λ (n : NodeId). n.0) (drop k ys)) ≡ before
tops_end before next xs ys k le = ap (λ (l : List NodeId). before ++ differences next (map (λ (n : NodeId). n.0) l) (map (λ (n : NodeId). n.0) (drop k ys))) (drop_end xs k le) ∙ append-nil before

-- what is observed after the last gate
pub observed_after : (v w u : Net) (ds : List ℕ) (k : ℕ) → w ≡ with_nodes v (live (or_gate ds ∷ not_gate (length v.nodes) ∷ [])) → k ≡ suc (length v.nodes) → u ≡ record w { observed = w.observed ++ k ∷ [] }
    → u ≡ record { nodes = v.nodes ++ live (or_gate ds ∷ not_gate (length v.nodes) ∷ []); observed = v.observed ++ suc (length v.nodes) ∷ [] }
observed_after v w u ds k is e last =
    last
    ∙ (ap (λ (n : Net). let r : Net = record n { observed = n.observed ++ k ∷ [] } in r) is
    ∙ ap (λ (i : ℕ). let r : Net = record { nodes = v.nodes ++ live (or_gate ds ∷ not_gate (length v.nodes) ∷ []); observed = v.observed ++ i ∷ [] } in r) e)

pub last_made : (v w u : Net) (ds : List ℕ) (k : ℕ) → w ≡ with_nodes v (Some (or_gate ds) ∷ []) → k ≡ length v.nodes → u ≡ with_nodes w (Some (not_gate k) ∷ []) → u ≡ with_nodes v (live (or_gate ds ∷ not_gate (length v.nodes) ∷ []))
last_made v w u ds k is e made = two_made v w (or_gate ds) (not_gate k) is u made ∙ ap (λ (i : ℕ). with_nodes v (live (or_gate ds ∷ not_gate i ∷ []))) e

pub last_fits : (v w : Net) (ds : List ℕ) (k : ℕ) → w ≡ with_nodes v (Some (or_gate ds) ∷ []) → k ≡ length v.nodes → Fits (with_nodes v (live (or_gate ds ∷ not_gate (length v.nodes) ∷ []))) → Fits (with_nodes w (Some (not_gate k) ∷ []))
last_fits v w ds k is e fits = subst (λ (n : Net). Fits n) (sym (last_made v w (with_nodes w (Some (not_gate k) ∷ [])) ds k is e refl)) fits
