-- Sums over lists.
use Rattle.std.proofs.Common.{◌≡◌, ◌+◌, ℕ, List, [], ◌∷◌, ◌++◌, map, refl, ap, ◌∙◌, arith}
use Rattle.std.specs.Prelude.{sum_by}
use Rattle.std.proofs.lemmas.List.Sums.{sum_by-cons}

-- the sum from the front
abbrev pub total : {A : Type 0} → (A → ℕ) → List A → ℕ
total f [] = 0
total f (x ∷ xs) = f x + total f xs

pub sum-total : {A : Type 0} (f : A → ℕ) (xs : List A) → sum_by f xs ≡ total f xs
sum-total f [] = refl
sum-total f (x ∷ xs) = sum_by-cons f x xs ∙ ap (λ (n : ℕ). f x + n) (sum-total f xs)

pub total-append : {A : Type 0} (f : A → ℕ) (xs ys : List A) → total f (xs ++ ys) ≡ total f xs + total f ys
total-append f [] ys = omega arith
total-append f (x ∷ xs) ys = let e : total f (xs ++ ys) ≡ total f xs + total f ys = total-append f xs ys in omega arith

pub total-map : {A B : Type 0} (f : B → ℕ) (g : A → B) (xs : List A) → total f (map g xs) ≡ total (λ x. f (g x)) xs
total-map f g [] = refl
total-map f g (x ∷ xs) = ap (λ (n : ℕ). f (g x) + n) (total-map f g xs)
