-- How often a name stands in a list.
use Rattle.std.proofs.Common.{◌≡◌, ◌≤◌, ◌+◌, ℕ, List, [], ◌∷◌, ◌++◌, map, Bool, true, false, not, ◌||◌, inl, inr, refl, sym, ap, ◌∙◌, arith}
use Rattle.std.specs.List.{list_all}
use Rattle.std.proofs.lemmas.Bool.{cases_lt}
use Rattle.rm_base.specs.Numbers.{one_if}
use Rattle.rm_base.specs.Words.{Word}
use Rattle.rm_base.proofs.Public.{and_first, and_second, both_and, false_from_not}
use Rattle.rm_model.specs.Words.{is_word}
use Rattle.rm_model.specs.Value.{is_among}
use Rattle.rm_model.specs.WellFormed.{is_distinct}
use Rattle.rm_model.proofs.Public.{same_word, is_word-same}

abbrev pub times : Word → List Word → ℕ
times x [] = 0
times x (y ∷ ys) = one_if (is_word x y) + times x ys

pub times-append : (x : Word) (xs ys : List Word) → times x (xs ++ ys) ≡ times x xs + times x ys
times-append x [] ys = omega arith
times-append x (y ∷ xs) ys = let h : times x (xs ++ ys) ≡ times x xs + times x ys = times-append x xs ys in omega (arith, h)

-- A NAME THAT STANDS THERE
pub among-times : (x : Word) (xs : List Word) → is_among xs x ≡ true → 1 ≤ times x xs
among-times x [] e = absurd cc
among-times x (y ∷ ys) e = at (is_word x y) e (among-times x ys)
  where
    at : (b : Bool) → (b || is_among ys x) ≡ true → (is_among ys x ≡ true → 1 ≤ times x ys) → 1 ≤ one_if b + times x ys
    at true f k = omega arith
    at false f k = let h : 1 ≤ times x ys = k f in omega (arith, h)

pub times-among : (x : Word) (xs : List Word) → 1 ≤ times x xs → is_among xs x ≡ true
times-among x [] h = absurd (let bad : 1 ≤ 0 = h in omega (arith, bad))
times-among x (y ∷ ys) h = at (is_word x y) h (times-among x ys)
  where
    at : (b : Bool) → 1 ≤ one_if b + times x ys → (1 ≤ times x ys → is_among ys x ≡ true) → (b || is_among ys x) ≡ true
    at true h k = refl
    at false h k = k (omega (arith, h))

pub times-none : (x : Word) (xs : List Word) → is_among xs x ≡ false → times x xs ≡ 0
times-none x [] e = refl
times-none x (y ∷ ys) e = at (is_word x y) e (times-none x ys)
  where
    at : (b : Bool) → (b || is_among ys x) ≡ false → (is_among ys x ≡ false → times x ys ≡ 0) → one_if b + times x ys ≡ 0
    at true f k = absurd cc
    at false f k = let h : times x ys ≡ 0 = k f in omega (arith, h)

times-here : (y : Word) (ys : List Word) → times y (y ∷ ys) ≡ 1 + times y ys
times-here y ys = ap (λ (b : Bool). one_if b + times y ys) (is_word-same y)

-- NAMES THAT STAND ONCE
pub distinct-once : (xs : List Word) → is_distinct xs ≡ true → (x : Word) → times x xs ≤ 1
distinct-once [] e x = omega arith
distinct-once (y ∷ ys) e x = at (is_word x y) refl (distinct-once ys (and_second (not (is_among ys y)) (is_distinct ys) e) x)
  where
    at : (b : Bool) → is_word x y ≡ b → times x ys ≤ 1 → one_if b + times x ys ≤ 1
    at true same h =
        let new : is_among ys y ≡ false = false_from_not (is_among ys y) (and_first (not (is_among ys y)) (is_distinct ys) e) in
        let none : times x ys ≡ 0 = times-none x ys (ap (is_among ys) (same_word x y same) ∙ new) in
        omega (arith, none)
    at false same h = omega (arith, h)

pub once-distinct : (xs : List Word) → ((x : Word) → times x xs ≤ 1) → is_distinct xs ≡ true
once-distinct [] h = refl
once-distinct (y ∷ ys) h =
    both_and (not (is_among ys y)) (is_distinct ys) (ap not (new (is_among ys y) refl))
    (once-distinct ys (λ x. let k : one_if (is_word x y) + times x ys ≤ 1 = h x in omega (arith, k)))
  where
    new : (b : Bool) → is_among ys y ≡ b → is_among ys y ≡ false
    new false e = e
    new true e =
        let some : 1 ≤ times y ys = among-times y ys e in
        let two : times y (y ∷ ys) ≡ 1 + times y ys = times-here y ys in
        let once : times y (y ∷ ys) ≤ 1 = h y in
        absurd (omega (arith, some, two, once))

-- TESTS OF ALL NAMES
pub all-times : (p : Word → Bool) (xs : List Word) → ((x : Word) → 1 ≤ times x xs → p x ≡ true) → list_all p xs ≡ true
all-times p [] h = refl
all-times p (y ∷ ys) h =
    both_and (p y) (list_all p ys) (h y (let here : times y (y ∷ ys) ≡ 1 + times y ys = times-here y ys in omega (arith, here)))
    (all-times p ys (λ x k. h x (omega (arith, k))))

pub times-all : (p : Word → Bool) (xs : List Word) (x : Word) → list_all p xs ≡ true → 1 ≤ times x xs → p x ≡ true
times-all p [] x e h = absurd (let bad : 1 ≤ 0 = h in omega (arith, bad))
times-all p (y ∷ ys) x e h = at (is_word x y) refl h (times-all p ys x (and_second (p y) (list_all p ys) e))
  where
    at : (b : Bool) → is_word x y ≡ b → 1 ≤ one_if b + times x ys → (1 ≤ times x ys → p x ≡ true) → p x ≡ true
    at true same h k = ap p (same_word x y same) ∙ and_first (p y) (list_all p ys) e
    at false same h k = k (omega (arith, h))

-- what holds of all names of a list holds of all that are among these
pub all-through : (p : Word → Bool) (xs ys : List Word) → list_all (is_among xs) ys ≡ true → list_all p xs ≡ true → list_all p ys ≡ true
all-through p xs ys known h = all-times p ys (λ x k. times-all p xs x h (among-times x xs (times-all (is_among xs) ys x known k)))

-- NAMES UNDER A RENAMING
same-test : (f : Word → Word) → ((y z : Word) → f y ≡ f z → y ≡ z) → (y z : Word) → is_word (f y) (f z) ≡ is_word y z
same-test f own y z = at (is_word (f y) (f z)) refl (is_word y z) refl
  where
    at : (a : Bool) → is_word (f y) (f z) ≡ a → (b : Bool) → is_word y z ≡ b → is_word (f y) (f z) ≡ is_word y z
    at true e true g = e ∙ sym g
    at false e false g = e ∙ sym g
    at true e false g = let same : y ≡ z = own y z (same_word (f y) (f z) e) in let bad : is_word y z ≡ true = ap (is_word y) (sym same) ∙ is_word-same y in absurd cc
    at false e true g = let same : f y ≡ f z = ap f (same_word y z g) in let bad : is_word (f y) (f z) ≡ true = ap (is_word (f y)) (sym same) ∙ is_word-same (f y) in absurd cc

pub times-same : (f : Word → Word) → ((y z : Word) → f y ≡ f z → y ≡ z) → (y : Word) (xs : List Word) → times (f y) (map f xs) ≡ times y xs
times-same f own y [] = refl
times-same f own y (z ∷ zs) =
    ap (λ (b : Bool). one_if b + times (f y) (map f zs)) (same-test f own y z)
    ∙ ap (λ (n : ℕ). one_if (is_word y z) + n) (times-same f own y zs)

pub times-found : (f : Word → Word) (x : Word) (xs : List Word) → 1 ≤ times x (map f xs) → (y : Word) × ((1 ≤ times y xs) × (x ≡ f y))
times-found f x [] h = absurd (let bad : 1 ≤ 0 = h in omega (arith, bad))
times-found f x (z ∷ zs) h = at (is_word x (f z)) refl h (times-found f x zs)
  where
    at : (b : Bool) → is_word x (f z) ≡ b → 1 ≤ one_if b + times x (map f zs) → (1 ≤ times x (map f zs) → (y : Word) × ((1 ≤ times y zs) × (x ≡ f y))) → (y : Word) × ((1 ≤ times y (z ∷ zs)) × (x ≡ f y))
    at true same h k = (z, ((let here : times z (z ∷ zs) ≡ 1 + times z zs = times-here z zs in omega (arith, here)), same_word x (f z) same))
    at false same h k =
        let there = k (omega (arith, h)) in
        let some : 1 ≤ times there.0 zs = there.1.0 in
        (there.0, ((omega (arith, some)), there.1.1))

pub times-mapped : (f : Word → Word) → ((y z : Word) → f y ≡ f z → y ≡ z) → (x : Word) (xs : List Word) → ((y : Word) → times y xs ≤ 1) → times x (map f xs) ≤ 1
times-mapped f own x xs once = elim (cases_lt (times x (map f xs)) 1) [
  | inl none ↦ omega (arith, none)
  | inr some ↦
      let there = times-found f x xs some in
      let same : times x (map f xs) ≡ times there.0 xs = ap (λ (w : Word). times w (map f xs)) there.1.1 ∙ times-same f own there.0 xs in
      let one : times there.0 xs ≤ 1 = once there.0 in
      omega (arith, same, one)
]
