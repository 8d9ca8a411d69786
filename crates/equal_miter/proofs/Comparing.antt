-- The values of the comparisons.
use Rattle.std.proofs.Common.{Bool, List, [], false, map, not, refl, suc, true, zero, ℕ, ◌∙◌, ◌∷◌, ◌≡◌, ◌≢◌}
use Rattle.std.specs.Prelude.{Some, slice_get}
use Rattle.gate_net.specs.Values.{junction, same_bool}
use Rattle.gate_net.proofs.Public.{not_is}
use Rattle.equal_miter.specs.Miter.{comparisons, differences}
use Rattle.equal_miter.proofs.Listed.{Met}

-- whether the values differ, place by place
abbrev pub differ_bits : (ℕ → Bool) → List ℕ → List ℕ → List Bool
differ_bits v (x ∷ xs) (y ∷ ys) = not (same_bool (v x) (v y)) ∷ differ_bits v xs ys
differ_bits v [] ys = []
differ_bits v (x ∷ xs) [] = []

exclusive : (b c : Bool) → junction true (junction false (b ∷ not c ∷ []) ∷ junction false (not b ∷ c ∷ []) ∷ []) ≡ not (same_bool b c)
exclusive false false = refl
exclusive false true = refl
exclusive true false = refl
exclusive true true = refl

five : (v0 v1 v2 v3 v4 b c : Bool) → v0 ≡ not b → v1 ≡ not c → v2 ≡ junction false (b ∷ v1 ∷ []) → v3 ≡ junction false (v0 ∷ c ∷ []) → v4 ≡ junction true (v2 ∷ v3 ∷ []) → v4 ≡ not (same_bool b c)
five v0 v1 v2 v3 v4 b c e0 e1 e2 e3 e4 = rw (e4, e2, e3, e1, e0) (exclusive b c)

pub differences_value : (v a : ℕ → Bool) (next : ℕ) (xs ys : List ℕ) → Met v a next (comparisons next xs ys) → map v (differences next xs ys) ≡ differ_bits v xs ys
differences_value v a next [] ys h = refl
differences_value v a next (x ∷ xs) [] h = refl
differences_value v a next (x ∷ xs) (y ∷ ys) (e0, (e1, (e2, (e3, (e4, rest))))) =
    rw (
      five (v next) (v (suc next)) (v (suc (suc next))) (v (suc (suc (suc next)))) (v (suc (suc (suc (suc next))))) (v x) (v y) (e0 ∙ not_is (v x)) (e1 ∙ not_is (v y)) e2 e3 e4,
      differences_value v a (suc (suc (suc (suc (suc next))))) xs ys rest,
    ) refl

different : (b c : Bool) → not (same_bool b c) ≡ true → b ≢ c
different false false e f = cc
different false true e f = cc
different true false e f = cc
different true true e f = cc

is_different : (b c : Bool) → b ≢ c → not (same_bool b c) ≡ true
is_different false false ne = absurd (ne refl)
is_different false true ne = refl
is_different true false ne = refl
is_different true true ne = absurd (ne refl)

-- a place at which the values differ
pub record DifferentPlace (v : ℕ → Bool) (xs ys : List ℕ) : Type 0 where
  pub place : ℕ
  pub x : ℕ
  pub y : ℕ
  pub x_is : slice_get xs place ≡ Some x
  pub y_is : slice_get ys place ≡ Some y
  pub differs : v x ≢ v y

later : (v : ℕ → Bool) (x y : ℕ) (xs ys : List ℕ) → DifferentPlace v xs ys → DifferentPlace v (x ∷ xs) (y ∷ ys)
later v x y xs ys d = record { place = suc d.place; x = d.x; y = d.y; x_is = d.x_is; y_is = d.y_is; differs = d.differs }

pub place_found : (v : ℕ → Bool) (xs ys : List ℕ) → junction true (differ_bits v xs ys) ≡ true → DifferentPlace v xs ys
place_found v [] ys e = absurd cc
place_found v (x ∷ xs) [] e = absurd cc
place_found v (x ∷ xs) (y ∷ ys) e = by_test (place_found v xs ys) (not (same_bool (v x) (v y))) refl e
  where
    by_test : (junction true (differ_bits v xs ys) ≡ true → DifferentPlace v xs ys) → (b : Bool) → not (same_bool (v x) (v y)) ≡ b → junction true (b ∷ differ_bits v xs ys) ≡ true → DifferentPlace v (x ∷ xs) (y ∷ ys)
    by_test next true is e = record { place = 0; x = x; y = y; x_is = refl; y_is = refl; differs = different (v x) (v y) is }
    by_test next false is e = later v x y xs ys (next e)

pub found_place : (v : ℕ → Bool) (xs ys : List ℕ) (k x y : ℕ) → slice_get xs k ≡ Some x → slice_get ys k ≡ Some y → v x ≢ v y → junction true (differ_bits v xs ys) ≡ true
found_place v [] ys k x y e f ne = absurd cc
found_place v (z ∷ xs) [] k x y e f ne = absurd cc
found_place v (z ∷ xs) (u ∷ ys) zero x y e f ne =
    let same : z ≡ x = cc in
    let other : u ≡ y = cc in
    rw (same, other, is_different (v x) (v y) ne) refl
found_place v (z ∷ xs) (u ∷ ys) (suc k) x y e f ne = by_head (not (same_bool (v z) (v u))) (found_place v xs ys k x y e f ne)
  where
    by_head : (b : Bool) → junction true (differ_bits v xs ys) ≡ true → junction true (b ∷ differ_bits v xs ys) ≡ true
    by_head true e = refl
    by_head false e = e
