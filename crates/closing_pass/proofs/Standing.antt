-- What stands at a place of a list.
use Rattle.std.proofs.Common.{◌≡◌, ℕ, zero, suc, ◌+◌, ◌<◌, ◌≤◌, Some, List, [], ◌∷◌, ◌++◌, length, map, take, drop, replicate, refl, sym, ◌∙◌, ap, subst, append_assoc, arith}
use Rattle.std.specs.Prelude.{slice_get, slice_set}
use Rattle.std.specs.List.{AllByRecursion, AllZip}
use Rattle.std.proofs.lemmas.List.{append-nil}
use Rattle.std.proofs.lemmas.Option.{slice_get_within}
use Rattle.rm_base.proofs.Public.{some_is}

pub stood : {A : Type 0} (xs ys : List A) (k : ℕ) (x : A) → k < length xs → slice_get (xs ++ ys) k ≡ Some x → slice_get xs k ≡ Some x
stood [] ys k x lt e = absurd (omega (arith, lt))
stood (y ∷ xs) ys zero x lt e = e
stood (y ∷ xs) ys (suc k) x lt e = stood xs ys k x (omega (arith, lt)) e

-- what stands in a part
pub stands_dropped : {A : Type 0} (xs : List A) (first k : ℕ) → slice_get (drop first xs) k ≡ slice_get xs (first + k)
stands_dropped xs zero k = let e : 0 + k ≡ k = omega arith in rw e refl
stands_dropped [] (suc first) k = refl
stands_dropped (x ∷ xs) (suc first) k = let e : suc first + k ≡ suc (first + k) = omega arith in rw e (stands_dropped xs first k)

pub stands_taken : {A : Type 0} (xs : List A) (count k : ℕ) (x : A) → slice_get (take count xs) k ≡ Some x → slice_get xs k ≡ Some x
stands_taken xs zero k x e = absurd (cc)
stands_taken [] (suc count) k x e = absurd (cc)
stands_taken (y ∷ xs) (suc count) zero x e = e
stands_taken (y ∷ xs) (suc count) (suc k) x e = stands_taken xs count k x e

pub taken_stands : {A : Type 0} (xs : List A) (count k : ℕ) → k < count → slice_get (take count xs) k ≡ slice_get xs k
taken_stands xs zero k lt = absurd (omega (arith, lt))
taken_stands [] (suc count) k lt = refl
taken_stands (y ∷ xs) (suc count) zero lt = refl
taken_stands (y ∷ xs) (suc count) (suc k) lt = taken_stands xs count k (omega (arith, lt))

pub replicated : {A : Type 0} (x y : A) (count k : ℕ) → slice_get (replicate count x) k ≡ Some y → y ≡ x
replicated x y zero k e = absurd (cc)
replicated x y (suc count) zero e = sym (some_is x y e)
replicated x y (suc count) (suc k) e = replicated x y count k e

pub length-set : {A : Type 0} (xs : List A) (k : ℕ) (x : A) → length (slice_set xs k x) ≡ length xs
length-set [] k x = refl
length-set (y ∷ xs) zero x = refl
length-set (y ∷ xs) (suc k) x = ap suc (length-set xs k x)

-- a property of all that stands
pub by_recursion : {A : Type 0} (P : A → Type 0) (xs : List A) → ((k : ℕ) (x : A) → slice_get xs k ≡ Some x → P x) → AllByRecursion P xs
by_recursion P [] each = tt
by_recursion P (x ∷ xs) each = (each 0 x refl, by_recursion P xs (λ k y e. each (suc k) y e))

pub from_recursion : {A : Type 0} (P : A → Type 0) (xs : List A) → AllByRecursion P xs → (k : ℕ) (x : A) → slice_get xs k ≡ Some x → P x
from_recursion P [] all k x e = absurd (cc)
from_recursion P (y ∷ xs) all zero x e = subst P (some_is y x e) all.0
from_recursion P (y ∷ xs) all (suc k) x e = from_recursion P xs all.1 k x e

-- what stands at one place of two lists of which each has one for each of the other
pub zip_stands : {A B : Type 0} (R : A → B → Type 0) (xs : List A) (ys : List B) (k : ℕ) (y : B) → AllZip R xs ys → slice_get ys k ≡ Some y → (x : A) × ((slice_get xs k ≡ Some x) × R x y)
zip_stands R [] [] k y z e = absurd (cc)
zip_stands R [] (b ∷ ys) k y z e = absurd z
zip_stands R (a ∷ xs) [] k y z e = absurd (cc)
zip_stands R (a ∷ xs) (b ∷ ys) zero y z e = (a, (refl, subst (R a) (some_is b y e) z.0))
zip_stands R (a ∷ xs) (b ∷ ys) (suc k) y z e = zip_stands R xs ys k y z.1 e

pub zip_length : {A B : Type 0} (R : A → B → Type 0) (xs : List A) (ys : List B) → AllZip R xs ys → length ys ≡ length xs
zip_length R [] [] z = refl
zip_length R [] (b ∷ ys) z = absurd z
zip_length R (a ∷ xs) [] z = absurd z
zip_length R (a ∷ xs) (b ∷ ys) z = ap suc (zip_length R xs ys z.1)

-- two lists of one length that have the same in each place are one
pub mapped_is : {A B : Type 0} (f : A → B) (xs : List A) (ys : List B) → length xs ≡ length ys → ((k : ℕ) (x : A) → slice_get xs k ≡ Some x → slice_get ys k ≡ Some (f x)) → map f xs ≡ ys
mapped_is f [] [] size each = refl
mapped_is f [] (y ∷ ys) size each = absurd (omega (arith, size))
mapped_is f (x ∷ xs) [] size each = absurd (omega (arith, size))
mapped_is f (x ∷ xs) (y ∷ ys) size each =
    let here : y ≡ f x = some_is y (f x) (each 0 x refl) in
    let rest : map f xs ≡ ys = mapped_is f xs ys (omega (arith, size)) (λ k z e. each (suc k) z e) in
    rw (here, rest) refl

pub replicated_more : {A : Type 0} (x : A) (n : ℕ) → replicate n x ++ x ∷ [] ≡ replicate (n + 1) x
replicated_more x zero = refl
replicated_more {A} x (suc n) = let next : suc n + 1 ≡ suc (n + 1) = omega arith in rw next (ap (λ (xs : List A). x ∷ xs) (replicated_more x n))

-- a list of which some have been yielded, and one more
pub yielded_more : {A : Type 0} (all done rest last : List A) (x : A) → all ≡ done ++ rest → rest ≡ x ∷ last → all ≡ (done ++ x ∷ []) ++ last
yielded_more {A} all done rest last x e f = e ∙ ap (λ (xs : List A). done ++ xs) f ∙ sym (append_assoc done (x ∷ []) last)

pub yielded_stands : {A : Type 0} (all done rest last : List A) (x : A) → all ≡ done ++ rest → rest ≡ x ∷ last → slice_get all (length done) ≡ Some x
yielded_stands {A} all done rest last x e f = rw (e, f) (seam done)
  where
    seam : (ys : List A) → slice_get (ys ++ x ∷ last) (length ys) ≡ Some x
    seam [] = refl
    seam (y ∷ ys) = seam ys

pub yielded_all : {A : Type 0} (all done rest : List A) → all ≡ done ++ rest → rest ≡ [] → all ≡ done
yielded_all {A} all done rest e f = e ∙ ap (λ (xs : List A). done ++ xs) f ∙ append-nil done

pub yielded_below : {A : Type 0} (all done rest last : List A) (x : A) → all ≡ done ++ rest → rest ≡ x ∷ last → length done < length all
yielded_below {A} all done rest last x e f = slice_get_within all (length done) x (yielded_stands all done rest last x e f)

-- the next of two lists of which each has one for each of the other
pub zip_here : {A B : Type 0} (R : A → B → Type 0) (xs : List A) (at : ℕ) (y : B) (ys : List B) → AllZip R (drop at xs) (y ∷ ys) → at < length xs
zip_here R [] zero y ys z = absurd z
zip_here R [] (suc at) y ys z = absurd z
zip_here R (x ∷ xs) zero y ys z = omega arith
zip_here R (x ∷ xs) (suc at) y ys z = let lt : at < length xs = zip_here R xs at y ys z in omega (arith, lt)

pub zip_next : {A B : Type 0} (R : A → B → Type 0) (xs : List A) (at : ℕ) (x : A) (y : B) (ys : List B) → slice_get xs at ≡ Some x → AllZip R (drop at xs) (y ∷ ys) → R x y × AllZip R (drop (at + 1) xs) ys
zip_next R [] zero x y ys e z = absurd z
zip_next R [] (suc at) x y ys e z = absurd z
zip_next R (a ∷ xs) zero x y ys e z = (subst (λ (b : _). R b y) (some_is a x e) z.0, z.1)
zip_next R (a ∷ xs) (suc at) x y ys e z = let next : suc at + 1 ≡ suc (at + 1) = omega arith in rw next (zip_next R xs at x y ys e z)

pub zip_end : {A B : Type 0} (R : A → B → Type 0) (xs : List A) (at : ℕ) → AllZip R (drop at xs) [] → length xs ≤ at
zip_end R [] at z = omega arith
zip_end R (x ∷ xs) zero z = absurd z
zip_end R (x ∷ xs) (suc at) z = let le : length xs ≤ at = zip_end R xs at z in omega (arith, le)

pub empty_is : {A : Type 0} (xs : List A) → length xs ≡ 0 → xs ≡ []
empty_is [] e = refl
empty_is (x ∷ xs) e = absurd (omega (arith, e))
