-- Going on along the pins of a gate.
use Rattle.std.proofs.Common.{List, None, Option, Some, [], ap, arith, drop, length, refl, subst, suc, sym, zero, ℕ, ◌+◌, ◌-◌, ◌<◌, ◌∙◌, ◌∷◌, ◌≡◌, ◌≤◌}
use Rattle.std.proofs.lemmas.List.{drop-drop}
use Rattle.std.proofs.Math.Seq.{drop-nil}
use Rattle.std.specs.Prelude.{slice_get}
use Rattle.rm_base.specs.Numbers.{number_bound}

-- passing over one pin more
pub pass_one : (xs rest : List ℕ) (p n : ℕ) → xs ≡ p ∷ rest → 0 < n → drop (n - 1) rest ≡ drop n xs
pass_one xs rest p n e lt =
    let one : n ≡ suc (n - 1) = omega (arith, lt) in
    sym (ap (drop n) e ∙ ap (λ k. drop k (p ∷ rest)) one)

pub pass_none : (xs : List ℕ) (n : ℕ) → xs ≡ [] → drop n xs ≡ []
pass_none xs n e = ap (drop n) e ∙ drop-nil n

-- what is left from a later place is left of what is left from an earlier one
pub left_later : (ds rest rest' : List ℕ) (from to : ℕ) → from ≤ to → rest ≡ drop from ds → rest' ≡ drop (to - from) rest → rest' ≡ drop to ds
left_later ds rest rest' from to h e e' =
    let sum : from + (to - from) ≡ to = omega (arith, h) in
    e' ∙ ap (drop (to - from)) e ∙ drop-drop (to - from) from ds ∙ ap (λ (j : ℕ). drop j ds) sum

-- the first of what is left stands at the place
pub left_first : (ds : List ℕ) (k d : ℕ) (rest : List ℕ) → drop k ds ≡ d ∷ rest → slice_get ds k ≡ Some d
left_first [] zero d rest e = cc
left_first [] (suc k) d rest e = cc
left_first (x ∷ ds) zero d rest e = ap (λ (ys : List ℕ). slice_get ys 0) e
left_first (x ∷ ds) (suc k) d rest e = left_first ds k d rest e

pub left_rest : (ds : List ℕ) (k d : ℕ) (rest : List ℕ) → drop k ds ≡ d ∷ rest → drop (suc k) ds ≡ rest
left_rest [] zero d rest e = cc
left_rest [] (suc k) d rest e = cc
left_rest (x ∷ ds) zero d rest e = ap (λ (ys : List ℕ). drop 1 ys) e
left_rest (x ∷ ds) (suc k) d rest e = left_rest ds k d rest e

pub left_none : (ds : List ℕ) (k : ℕ) → drop k ds ≡ [] → slice_get ds k ≡ None
left_none [] zero e = refl
left_none [] (suc k) e = refl
left_none (x ∷ ds) zero e = cc
left_none (x ∷ ds) (suc k) e = left_none ds k e

-- no more pins are passed over and left than a gate has, or than lead to a place
pub left_few : (ds rest : List ℕ) (k n : ℕ) → rest ≡ drop k ds → k ≤ n → n ≤ number_bound → length ds ≤ number_bound → k + length rest ≤ number_bound
left_few ds rest k n e h top few = rw e (at ds k number_bound (omega (arith, h, top)) few)
  where
    at : (ds : List ℕ) (k b : ℕ) → k ≤ b → length ds ≤ b → k + length (drop k ds) ≤ b
    at ds zero b h few = omega (arith, few)
    at [] (suc k) b h few = omega (arith, h)
    at (x ∷ ds) (suc k) zero h few = absurd (omega (arith, h))
    at (x ∷ ds) (suc k) (suc b) h few = let more : k + length (drop k ds) ≤ b = at ds k b (omega (arith, h)) (omega (arith, few)) in omega (arith, more)

pub few_same : (ds rest : List ℕ) → rest ≡ ds → length rest ≤ number_bound → length ds ≤ number_bound
few_same ds rest e few = let P : List ℕ → Type 0 = λ xs. length xs ≤ number_bound in subst P e few
