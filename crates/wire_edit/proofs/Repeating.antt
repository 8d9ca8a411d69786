-- Marks on the first drivers of a list.
use Rattle.std.proofs.Common.{◌≡◌, ◌≢◌, ℕ, zero, suc, ◌+◌, ◌-◌, ◌<◌, ◌≤◌, Bool, true, false, ◌||◌, ◌⊎◌, inl, inr, Some, List, [], ◌∷◌, ◌++◌, length, map, take, refl, sym, ◌∙◌, ap, arith}
use Rattle.std.specs.Prelude.{slice_get, set, nat_eq}
use Rattle.std.proofs.lemmas.Bool.{cases_eq, eq-eqb, false_from_ne_true, ne_eqb}
use Rattle.rm_base.specs.declared.numbers.NodeId.{NodeId}
use Rattle.gate_net.specs.Net.{Net, drivers_of, IsWellFormed}
use Rattle.gate_graph.specs.Search.{AreBelow}
use Rattle.wire_edit.specs.Tests.{is_among}
use Rattle.wire_edit.specs.Inner.Marked.{is_marked}
use Rattle.wire_edit.specs.Inner.Known.{MarksFirst}
use Rattle.wire_edit.proofs.Marking.{set_marked, set_other_mark}
use Rattle.wire_edit.proofs.Conditions.{driver_live}
use Rattle.wire_edit.proofs.Ordering.{live_below}
use Rattle.wire_edit.proofs.Walks.{next_place}

among_push : (x d : ℕ) (xs : List ℕ) → is_among x (xs ++ d ∷ []) ≡ (is_among x xs || nat_eq d x)
among_push x d [] = or_false (nat_eq d x)
  where
    or_false : (b : Bool) → (b || false) ≡ b
    or_false true = refl
    or_false false = refl
among_push x d (y ∷ ys) = ap (λ b. nat_eq y x || b) (among_push x d ys) ∙ or_assoc (nat_eq y x) (is_among x ys) (nat_eq d x)
  where
    or_assoc : (a b c : Bool) → (a || (b || c)) ≡ ((a || b) || c)
    or_assoc true b c = refl
    or_assoc false b c = refl

take_push : (ds : List ℕ) (n d : ℕ) → slice_get ds n ≡ Some d → take (n + 1) ds ≡ take n ds ++ d ∷ []
take_push [] n d e = cc
take_push (x ∷ ds) zero d e = let is : x ≡ d = cc in ap (λ y. y ∷ []) is
take_push (x ∷ ds) (suc n) d e = let s : suc n + 1 ≡ suc (n + 1) = omega arith in ap (λ k. take k (x ∷ ds)) s ∙ ap (λ ys. x ∷ ys) (take_push ds n d e)

among_more : (ds : List ℕ) (n d x : ℕ) → slice_get ds n ≡ Some d → is_among x (take (n + 1) ds) ≡ (is_among x (take n ds) || nat_eq d x)
among_more ds n d x e = ap (is_among x) (take_push ds n d e) ∙ among_push x d (take n ds)

pub at_here : (ds : List ℕ) (ys : List NodeId) (left rest : List ℕ) (d position : ℕ) → ds ≡ map (λ n. n.0) ys ++ left → position ≡ length ys → left ≡ d ∷ rest → slice_get ds position ≡ Some d
at_here ds ys left rest d position all count e = ap (slice_get ds) count ∙ next_place (λ (n : NodeId). n.0) ds ys left rest d all e

pub marks_one : (ds : List ℕ) (n d : ℕ) (marks : List Bool) → MarksFirst ds n marks → slice_get ds n ≡ Some d → d < length marks → MarksFirst ds (n + 1) (set marks d true)
marks_one ds n d marks m e lt x = elim (cases_eq x d) [
  | inl is ↦
      ap (is_marked (set marks d true)) is ∙ set_marked marks d true lt ∙ sym (among_more ds n d x e ∙ second (is_among x (take n ds)) (nat_eq d x) (eq-eqb d x (sym is)))
  | inr ne ↦
      set_other_mark marks d x true ne ∙ m x ∙ sym (among_more ds n d x e ∙ first (is_among x (take n ds)) (nat_eq d x) (ne_eqb d x (λ i. ne (sym i))))
]
  where
    second : (a b : Bool) → b ≡ true → (a || b) ≡ true
    second true b e = refl
    second false b e = e

    first : (a b : Bool) → b ≡ false → (a || b) ≡ a
    first true b e = refl
    first false b e = e

-- what is marked is among the first drivers that are left
abbrev pub AreAmong : List ℕ → ℕ → List Bool → Type 0
AreAmong ds n marks = (x : ℕ) → is_marked marks x ≡ true → is_among x (take n ds) ≡ true

pub among_less : (it rest : List ℕ) (d n : ℕ) (marks : List Bool) → AreAmong it n marks → it ≡ d ∷ rest → n ≢ 0 → d < length marks → AreAmong rest (n - 1) (set marks d false)
among_less it rest d zero marks a e ne lt x h = absurd (ne refl)
among_less it rest d (suc n) marks a e ne lt x h = elim (cases_eq x d) [
  | inl is ↦ let wrong : true ≡ false = sym h ∙ ap (is_marked (set marks d false)) is ∙ set_marked marks d false lt in cc
  | inr other ↦
      let there : is_among x (take (suc n) (d ∷ rest)) ≡ true = ap (λ (l : List ℕ). is_among x (take (suc n) l)) (sym e) ∙ a x (sym (set_other_mark marks d x false other) ∙ h) in
      let one : suc n - 1 ≡ n = omega arith in
      rw one (sym (ap (λ (b : Bool). b || is_among x (take n rest)) (ne_eqb d x (λ i. other (sym i)))) ∙ there)
]

pub none_left : (ds : List ℕ) (n : ℕ) (marks : List Bool) → AreAmong ds n marks → (n ≡ 0) ⊎ (ds ≡ []) → (x : ℕ) → is_marked marks x ≡ false
none_left ds n marks a none x = false_from_ne_true (is_marked marks x) (λ h. elim none [
  | inl z ↦ let wrong : is_among x (take 0 ds) ≡ true = ap (λ (k : ℕ). is_among x (take k ds)) (sym z) ∙ a x h in empty ds wrong
  | inr e ↦ let wrong : is_among x (take n []) ≡ true = ap (λ (l : List ℕ). is_among x (take n l)) (sym e) ∙ a x h in nothing n wrong
])
  where
    empty : (ds : List ℕ) → is_among x (take 0 ds) ≡ true → ⊥
    empty [] e = cc
    empty (d ∷ ds) e = cc

    nothing : (n : ℕ) → is_among x (take n []) ≡ true → ⊥
    nothing zero e = cc
    nothing (suc n) e = cc

-- taking more than there is takes all
pub take_most : (ds : List ℕ) (n m : ℕ) → length ds ≤ n → length ds ≤ m → take n ds ≡ take m ds
take_most [] zero zero le le' = refl
take_most [] zero (suc m) le le' = refl
take_most [] (suc n) zero le le' = refl
take_most [] (suc n) (suc m) le le' = refl
take_most (d ∷ ds) zero m le le' = absurd (omega (arith, le))
take_most (d ∷ ds) (suc n) zero le le' = absurd (omega (arith, le'))
take_most (d ∷ ds) (suc n) (suc m) le le' = ap (λ (l : List ℕ). d ∷ l) (take_most ds n m (omega (arith, le)) (omega (arith, le')))

pub drivers_below : (net : Net) (gate n : ℕ) (ds : List ℕ) → IsWellFormed net → length net.nodes ≤ n → ds ≡ drivers_of net gate → AreBelow ds n
drivers_below net gate n ds well le e p x there =
    let l : _ = driver_live net well gate p x (ap (λ (xs : List ℕ). slice_get xs p) (sym e) ∙ there) in
    let lt : x < length net.nodes = live_below net.nodes x _ l.1.1 in
    omega (arith, lt, le)
