-- Lists in which each item stands once.
use Rattle.std.proofs.Common.{List, Some, [], ap, arith, inl, inr, length, refl, sym, ℕ, ◌++◌, ◌+◌, ◌∙◌, ◌∷◌, ◌≡◌}
use Rattle.std.specs.Prelude.{slice_get}
use Rattle.candidate_wires.proofs.Appending.{only_one, stands_either}

abbrev pub IsOnce : {A : Type 0} → List A → Type 0
IsOnce {A} xs = (k l : ℕ) (x : A) → slice_get xs k ≡ Some x → slice_get xs l ≡ Some x → k ≡ l

pub once_none : {A : Type 0} → IsOnce {A = A} []
once_none k l x e f = absurd (cc)

pub once_one : {A : Type 0} (a : A) → IsOnce (a ∷ [])
once_one a k l x e f = (only_one a x k e).0 ∙ sym (only_one a x l f).0

pub once_both : {A : Type 0} (xs ys : List A) → IsOnce xs → IsOnce ys → ((k l : ℕ) (x : A) → slice_get xs k ≡ Some x → slice_get ys l ≡ Some x → ⊥) → IsOnce (xs ++ ys)
once_both xs ys front back apart k l x e f = elim (stands_either xs ys k x e) [
  | inl one ↦ elim (stands_either xs ys l x f) [
    | inl other ↦ front k l x one.1 other.1
    | inr other ↦ absurd (apart k other.0 x one.1 other.1.1)
  ]
  | inr one ↦ elim (stands_either xs ys l x f) [
    | inl other ↦ absurd (apart l one.0 x other.1 one.1.1)
    | inr other ↦
        let same : one.0 ≡ other.0 = back one.0 other.0 x one.1.1 other.1.1 in
        let at : k ≡ length xs + one.0 = one.1.0 in
        let at' : l ≡ length xs + other.0 = other.1.0 in
        omega (arith, same, at, at')
  ]
]

middle : {A : Type 0} (xs ys : List A) (x : A) → slice_get (xs ++ x ∷ ys) (length xs) ≡ Some x
middle [] ys x = refl
middle (a ∷ xs) ys x = middle xs ys x

same_front : {A : Type 0} (xs ys zs ws : List A) → length xs ≡ length zs → xs ++ ys ≡ zs ++ ws → xs ≡ zs
same_front [] ys [] ws n e = refl
same_front [] ys (z ∷ zs) ws n e = absurd (omega (arith, n))
same_front (x ∷ xs) ys [] ws n e = absurd (omega (arith, n))
same_front (x ∷ xs) ys (z ∷ zs) ws n e =
    let head : x ≡ z = cc in
    let rest : xs ≡ zs = same_front xs ys zs ws (omega (arith, n)) (cc) in
    cc

-- what comes before an item is determined
pub before_one : {A : Type 0} (all xs ys zs ws : List A) (x : A) → IsOnce all → all ≡ xs ++ x ∷ ys → all ≡ zs ++ x ∷ ws → xs ≡ zs
before_one {A} all xs ys zs ws x once e f =
    let long : length xs ≡ length zs = once (length xs) (length zs) x (ap (λ (q : List A). slice_get q (length xs)) e ∙ middle xs ys x) (ap (λ (q : List A). slice_get q (length zs)) f ∙ middle zs ws x) in
    same_front xs (x ∷ ys) zs (x ∷ ws) long (sym e ∙ f)
