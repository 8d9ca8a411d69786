-- What a count over a list tells.
use Rattle.std.proofs.Common.{Bool, List, Some, [], ap, arith, false, length, map, not, refl, suc, sym, true, zero, ℕ, ◌&&◌, ◌+◌, ◌<◌, ◌∙◌, ◌∷◌, ◌≡◌, ◌≤◌}
use Rattle.std.specs.List.{list_all, list_any}
use Rattle.std.specs.Prelude.{slice_get, slice_set}
use Rattle.gate_net.specs.Forward.{all_but}
use Rattle.implications.specs.Inner.Tallies.{counting}
use Rattle.rm_base.proofs.Public.{some_same}
use Rattle.rm_base.specs.Numbers.{one_if}

pub counting_cons : {A : Type 0} (test : A → Bool) (x : A) (xs : List A) → counting test (x ∷ xs) ≡ one_if (test x) + counting test xs
counting_cons test x xs = at (test x) refl
  where
    at : (t : Bool) → test x ≡ t → counting test (x ∷ xs) ≡ one_if (test x) + counting test xs
    at true is = rw is (omega arith)
    at false is = rw is (omega arith)

pub count_few : {A : Type 0} (test : A → Bool) (xs : List A) → counting test xs ≤ length xs
count_few test [] = omega arith
count_few test (x ∷ xs) = at (test x) refl (count_few test xs)
  where
    at : (t : Bool) → test x ≡ t → counting test xs ≤ length xs → counting test (x ∷ xs) ≤ length (x ∷ xs)
    at true is ih = rw is (omega arith)
    at false is ih = rw is (omega arith)

pub none_counted : {A : Type 0} (test : A → Bool) (xs : List A) → counting test xs ≡ 0 → list_any test xs ≡ false
none_counted test [] e = refl
none_counted test (x ∷ xs) e = at (test x) refl (none_counted test xs)
  where
    at : (t : Bool) → test x ≡ t → (counting test xs ≡ 0 → list_any test xs ≡ false) → list_any test (x ∷ xs) ≡ false
    at true is ih = let wrong : suc (counting test xs) ≡ 0 = rw is at e in absurd (omega arith)
    at false is ih = rw is (ih (rw is at e))

pub some_counted : {A : Type 0} (test : A → Bool) (xs : List A) → 0 < counting test xs → list_any test xs ≡ true
some_counted test [] h = absurd (omega arith)
some_counted test (x ∷ xs) h = at (test x) refl (some_counted test xs)
  where
    at : (t : Bool) → test x ≡ t → (0 < counting test xs → list_any test xs ≡ true) → list_any test (x ∷ xs) ≡ true
    at true is ih = rw is refl
    at false is ih = rw is (ih (rw is at h))

pub all_counted : {A : Type 0} (test : A → Bool) (xs : List A) → counting test xs ≡ length xs → list_all test xs ≡ true
all_counted test [] e = refl
all_counted test (x ∷ xs) e = at (test x) refl (all_counted test xs)
  where
    at : (t : Bool) → test x ≡ t → (counting test xs ≡ length xs → list_all test xs ≡ true) → list_all test (x ∷ xs) ≡ true
    at true is ih = let same : suc (counting test xs) ≡ length (x ∷ xs) = rw is at e in rw is (ih (omega arith))
    at false is ih =
        let same : counting test xs ≡ length (x ∷ xs) = rw is at e in
        let few : counting test xs ≤ length xs = count_few test xs in
        absurd (omega arith)

pub not_all_counted : {A : Type 0} (test : A → Bool) (xs : List A) → counting test xs < length xs → list_all test xs ≡ false
not_all_counted test [] h = absurd (omega arith)
not_all_counted test (x ∷ xs) h = at (test x) refl (not_all_counted test xs)
  where
    at : (t : Bool) → test x ≡ t → (counting test xs < length xs → list_all test xs ≡ false) → list_all test (x ∷ xs) ≡ false
    at true is ih = let less : suc (counting test xs) < length (x ∷ xs) = rw is at h in rw is (ih (omega arith))
    at false is ih = rw is refl

-- two or more don't pass
pub but_counted : {A : Type 0} (test : A → Bool) (q : ℕ) (xs : List A) → counting test xs + 1 < length xs → all_but test q xs ≡ false
but_counted test q [] h = absurd (omega arith)
but_counted test q (x ∷ xs) h = at (test x) refl q (λ q'. but_counted test q' xs)
  where
    at : (t : Bool) → test x ≡ t → (q : ℕ) → ((q : ℕ) → counting test xs + 1 < length xs → all_but test q xs ≡ false) → all_but test q (x ∷ xs) ≡ false
    at true is zero ih = let less : suc (counting test xs) + 1 < length (x ∷ xs) = rw is at h in not_all_counted test xs (omega arith)
    at true is (suc q) ih = let less : suc (counting test xs) + 1 < length (x ∷ xs) = rw is at h in rw is (ih q (omega arith))
    at false is zero ih = let less : counting test xs + 1 < length (x ∷ xs) = rw is at h in not_all_counted test xs (omega arith)
    at false is (suc q) ih = rw is refl

pub counting_map : {A B : Type 0} (f : A → B) (test : B → Bool) (xs : List A) → counting test (map f xs) ≡ counting (λ (x : A). test (f x)) xs
counting_map f test [] = refl
counting_map {A = A} f test (x ∷ xs) = at (test (f x)) refl (counting_map f test xs)
  where
    at : (t : Bool) → test (f x) ≡ t → counting test (map f xs) ≡ counting (λ (z : A). test (f z)) xs → counting test (map f (x ∷ xs)) ≡ counting (λ (z : A). test (f z)) (x ∷ xs)
    at true is ih = rw is (ap suc ih)
    at false is ih = rw is ih

pub counting_same : {A : Type 0} (test other : A → Bool) (xs : List A) → ((x : A) → test x ≡ other x) → counting test xs ≡ counting other xs
counting_same test other [] same = refl
counting_same test other (x ∷ xs) same = counting_cons test x xs ∙ step (counting_same test other xs same) ∙ sym (counting_cons other x xs)
  where
    step : counting test xs ≡ counting other xs → one_if (test x) + counting test xs ≡ one_if (other x) + counting other xs
    step ih = rw (same x, ih) refl

-- a count after a write
pub counting_set : {A : Type 0} (test : A → Bool) (xs : List A) (p : ℕ) (x v : A) → slice_get xs p ≡ Some x → counting test (slice_set xs p v) + one_if (test x) ≡ counting test xs + one_if (test v)
counting_set test [] p x v there = cc
counting_set {A = A} test (y ∷ xs) zero x v there =
    let same : y ≡ x = some_same there in
    let before : counting test (y ∷ xs) ≡ one_if (test x) + counting test xs = counting_cons test y xs ∙ ap (λ (z : A). one_if (test z) + counting test xs) same in
    let after : counting test (v ∷ xs) ≡ one_if (test v) + counting test xs = counting_cons test v xs in
    omega arith
counting_set test (y ∷ xs) (suc p) x v there =
    let before : counting test (y ∷ xs) ≡ one_if (test y) + counting test xs = counting_cons test y xs in
    let after : counting test (y ∷ slice_set xs p v) ≡ one_if (test y) + counting test (slice_set xs p v) = counting_cons test y (slice_set xs p v) in
    let ih : counting test (slice_set xs p v) + one_if (test x) ≡ counting test xs + one_if (test v) = counting_set test xs p x v there in
    omega arith

-- those that pass both tests, and those that pass one and not the other
pub counting_split : {A : Type 0} (test other : A → Bool) (xs : List A) → counting (λ (x : A). test x && other x) xs + counting (λ (x : A). test x && not (other x)) xs ≡ counting test xs
counting_split test other [] = refl
counting_split {A = A} test other (x ∷ xs) =
    let ih : counting (λ (z : A). test z && other z) xs + counting (λ (z : A). test z && not (other z)) xs ≡ counting test xs = counting_split test other xs in
    let both : counting (λ (z : A). test z && other z) (x ∷ xs) ≡ one_if (test x && other x) + counting (λ (z : A). test z && other z) xs = counting_cons (λ (z : A). test z && other z) x xs in
    let one : counting (λ (z : A). test z && not (other z)) (x ∷ xs) ≡ one_if (test x && not (other x)) + counting (λ (z : A). test z && not (other z)) xs = counting_cons (λ (z : A). test z && not (other z)) x xs in
    let whole : counting test (x ∷ xs) ≡ one_if (test x) + counting test xs = counting_cons test x xs in
    let first : one_if (test x && other x) + one_if (test x && not (other x)) ≡ one_if (test x) = at (test x) (other x) in
    omega arith
  where
    at : (s t : Bool) → one_if (s && t) + one_if (s && not t) ≡ one_if s
    at true true = refl
    at true false = refl
    at false t = refl

-- what was counted once stands at one place
pub none_at : {A : Type 0} (test : A → Bool) (xs : List A) (q : ℕ) (x : A) → counting test xs ≡ 0 → slice_get xs q ≡ Some x → test x ≡ true → ⊥
none_at test [] q x e there is = cc
none_at test (y ∷ xs) zero x e there is =
    let same : y ≡ x = some_same there in
    let here : test y ≡ true = ap test same ∙ is in
    let one : suc (counting test xs) ≡ 0 = rw here at e in
    absurd (omega arith)
none_at test (y ∷ xs) (suc q) x e there is = none_at test xs q x (let sum : counting test (y ∷ xs) ≡ one_if (test y) + counting test xs = counting_cons test y xs in omega arith) there is

pub one_at : {A : Type 0} (test : A → Bool) (xs : List A) (p q : ℕ) (x z : A) → counting test xs ≡ 1 → slice_get xs p ≡ Some x → test x ≡ true → slice_get xs q ≡ Some z → test z ≡ true → q ≡ p
one_at test [] p q x z e there is there' is' = cc
one_at test (y ∷ xs) zero zero x z e there is there' is' = refl
one_at test (y ∷ xs) zero (suc q) x z e there is there' is' =
    let here : test y ≡ true = ap test (some_same there) ∙ is in
    let one : suc (counting test xs) ≡ 1 = rw here at e in
    absurd (none_at test xs q z (omega arith) there' is')
one_at test (y ∷ xs) (suc p) zero x z e there is there' is' =
    let here : test y ≡ true = ap test (some_same there') ∙ is' in
    let one : suc (counting test xs) ≡ 1 = rw here at e in
    absurd (none_at test xs p x (omega arith) there is)
one_at test (y ∷ xs) (suc p) (suc q) x z e there is there' is' = ap suc (at (test y) refl (λ f. one_at test xs p q x z f there is there' is'))
  where
    at : (t : Bool) → test y ≡ t → (counting test xs ≡ 1 → q ≡ p) → q ≡ p
    at true here ih = let one : suc (counting test xs) ≡ 1 = rw here at e in absurd (none_at test xs p x (omega arith) there is)
    at false here ih = ih (rw here at e)
