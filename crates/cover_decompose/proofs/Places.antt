-- Elements by their place in a list.
use Rattle.std.proofs.Common.{◌≡◌, ◌+◌, ℕ, zero, suc, List, [], ◌∷◌, ◌++◌, length, refl, ap, arith, ◌⊎◌, inl, inr}
use Rattle.std.specs.Prelude.{Some, slice_get}

-- an element of two lists is at its place in the first, or that much further in the second
pub get_parts : {A : Type 0} (xs ys : List A) (k : ℕ) (x : A) → slice_get (xs ++ ys) k ≡ Some x → (slice_get xs k ≡ Some x) ⊎ ((j : ℕ) × ((k ≡ length xs + j) × (slice_get ys j ≡ Some x)))
get_parts [] ys k x e = inr (k, (omega arith, e))
get_parts (y ∷ xs) ys zero x e = inl e
get_parts (y ∷ xs) ys (suc k) x e =
    elim (get_parts xs ys k x e) [ inl h ↦ inl h | inr h ↦ inr (h.0, (grind (arith, h.1.0), h.1.1)) ]

pub get_right : {A : Type 0} (xs ys : List A) (j : ℕ) → slice_get (xs ++ ys) (length xs + j) ≡ slice_get ys j
get_right [] ys j = let e : 0 + j ≡ j = omega arith in rw e refl
get_right (x ∷ xs) ys j = let e : suc (length xs) + j ≡ suc (length xs + j) = omega arith in rw e (get_right xs ys j)

pub length-push : {A : Type 0} (xs : List A) (y : A) → length (xs ++ y ∷ []) ≡ suc (length xs)
length-push [] y = refl
length-push (x ∷ xs) y = ap (λ (n : ℕ). suc n) (length-push xs y)
