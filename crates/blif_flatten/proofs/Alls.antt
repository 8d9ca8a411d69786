-- Facts of every element of a list that is made of others.
use Rattle.std.proofs.Common.{List, [], ◌∷◌, ◌++◌, map, Bool, true, false, cond, not}
use Rattle.std.specs.Prelude.{All, filter}
use Rattle.std.proofs.lemmas.List.Elements.{All-nil, All-cons, All-head, All-tail}

pub all-left : {A : Type 0} (P : A → Type 0) (xs ys : List A) → All P (xs ++ ys) → All P xs
all-left P [] ys h = All-nil P
all-left P (x ∷ xs) ys h = All-cons P x xs (All-head P x (xs ++ ys) h) (all-left P xs ys (All-tail P x (xs ++ ys) h))

pub all-right : {A : Type 0} (P : A → Type 0) (xs ys : List A) → All P (xs ++ ys) → All P ys
all-right P [] ys h = h
all-right P (x ∷ xs) ys h = all-right P xs ys (All-tail P x (xs ++ ys) h)

pub all-unmap : {A B : Type 0} (P : B → Type 0) (f : A → B) (xs : List A) → All P (map f xs) → All (λ x. P (f x)) xs
all-unmap P f [] h = All-nil (λ x. P (f x))
all-unmap P f (x ∷ xs) h = All-cons (λ x. P (f x)) x xs (All-head P (f x) (map f xs) h) (all-unmap P f xs (All-tail P (f x) (map f xs) h))

-- what holds of the elements that pass a test and of the others holds of all
pub all-unfilter : {A : Type 0} (P : A → Type 0) (test : A → Bool) (xs : List A) → All P (filter test xs) → All P (filter (λ x. not (test x)) xs) → All P xs
all-unfilter P test [] h k = All-nil P
all-unfilter P test (x ∷ xs) h k = go (test x) h k (all-unfilter P test xs)
  where
    go : (b : Bool) → All P (cond b (x ∷ filter test xs) (filter test xs)) → All P (cond (not b) (x ∷ filter (λ x. not (test x)) xs) (filter (λ x. not (test x)) xs)) → (All P (filter test xs) → All P (filter (λ x. not (test x)) xs) → All P xs) → All P (x ∷ xs)
    go true h k rest = All-cons P x xs (All-head P x (filter test xs) h) (rest (All-tail P x (filter test xs) h) k)
    go false h k rest = All-cons P x xs (All-head P x (filter (λ x. not (test x)) xs) k) (rest h (All-tail P x (filter (λ x. not (test x)) xs) k))

pub all-append : {A : Type 0} (P : A → Type 0) (xs ys : List A) → All P xs → All P ys → All P (xs ++ ys)
all-append P [] ys h k = k
all-append P (x ∷ xs) ys h k = All-cons P x (xs ++ ys) (All-head P x xs h) (all-append P xs ys (All-tail P x xs h) k)
