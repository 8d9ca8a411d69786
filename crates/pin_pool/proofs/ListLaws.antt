-- Lists of pins once a pin is put in or taken out.
use Rattle.std.proofs.Common.{◌≡◌, ◌≢◌, ℕ, true, false, ◌||◌, List, [], ◌∷◌, ◌++◌, Option, Some, None, eqb, refl, sym, ap, ◌∙◌, arith, inl, inr}
use Rattle.std.specs.Prelude.{if◌then◌else◌}
use Rattle.std.proofs.lemmas.Bool.{cases_eq, ne_eqb, eq-eqb}
use Rattle.std.proofs.lemmas.Bool.Decides.{nat_tests}
use Rattle.pin_pool.specs.Ring.{has, IsApart, without}
use Rattle.pin_pool.specs.Inner.Ring.{previous_from, put}
use Rattle.pin_pool.specs.Pins.{before_from, before_in, put_after, put_behind, StandsIn}
use Rattle.pin_pool.specs.declared.names.PinNo.{PinNo}
use Rattle.pin_pool.proofs.RingLemmas.{apart-cond, has-without, put-head}

abbrev pin : ℕ → PinNo
pin x = record { 0 = x }

has-put_behind : (xs : List ℕ) (a p q : ℕ) → has q (put_behind xs a p) ≡ (eqb q p || has q xs)
has-put_behind [] a p q = refl
has-put_behind (x ∷ xs) a p q = grind (arith, nat_tests, has-put_behind xs a p q)

pub has-put_after : (xs : List ℕ) (b : Option PinNo) (p q : ℕ) → has q (put_after xs b p) ≡ (eqb q p || has q xs)
has-put_after xs None p q = refl
has-put_after xs (Some a) p q = has-put_behind xs a.0 p q

apart-put_behind : (xs : List ℕ) (a p : ℕ) → IsApart xs → has p xs ≡ false → IsApart (put_behind xs a p)
apart-put_behind [] a p h hp = (refl, tt)
apart-put_behind (x ∷ xs) a p h hp =
    let hp' : has p xs ≡ false = grind (arith, nat_tests) in
    apart-cond (eqb x a) (x ∷ p ∷ xs) (x ∷ put_behind xs a p)
    (λ _. (let out : has x (p ∷ xs) ≡ false = grind (arith, nat_tests, h.0) in (out, (hp', h.1))))
    (λ _. (let out : has x (put_behind xs a p) ≡ false = grind (arith, nat_tests, has-put_behind xs a p x, h.0) in (out, apart-put_behind xs a p h.1 hp')))

pub apart-put_after : (xs : List ℕ) (b : Option PinNo) (p : ℕ) → IsApart xs → has p xs ≡ false → IsApart (put_after xs b p)
apart-put_after xs None p h hp = (hp, h)
apart-put_after xs (Some a) p h hp = apart-put_behind xs a.0 p h hp

without-put_behind : (xs : List ℕ) (a p : ℕ) → has p xs ≡ false → without p (put_behind xs a p) ≡ xs
without-put_behind [] a p h = grind (arith, nat_tests)
without-put_behind (x ∷ xs) a p h = grind (arith, nat_tests, without-put_behind xs a p)

pub without-put_after : (xs : List ℕ) (b : Option PinNo) (p : ℕ) → has p xs ≡ false → without p (put_after xs b p) ≡ xs
without-put_after xs None p h = grind (arith, nat_tests)
without-put_after xs (Some a) p h = without-put_behind xs a.0 p h

-- the pin before p, in x ∷ xs without p, and what is there once p is put behind it
record IsBefore (x : ℕ) (xs : List ℕ) (p : ℕ) : Type 0 where
  at : PinNo
  is : before_from (Some (pin x)) xs p ≡ Some at
  stands : has at.0 (x ∷ without p xs) ≡ true
  back : put_behind (x ∷ without p xs) at.0 p ≡ x ∷ xs

before-in : (x : ℕ) (xs : List ℕ) (p : ℕ) → IsApart (x ∷ xs) → has p xs ≡ true → IsBefore x xs p
before-in x [] p a h = cc
before-in x (y ∷ ys) p a h = elim (cases_eq y p) [
  | inl e ↦
      let same = eq-eqb y p e in
      let same' = eq-eqb p y (sym e) in
      record {
        at = pin x;
        is = rw same refl;
        stands = grind (arith, nat_tests);
        back = rw (same', eq-eqb x x refl, e) refl;
      }
  | inr ne ↦
      let ne' : p ≢ y = λ s. ne (sym s) in
      let rest = before-in y ys p a.1 (grind (arith, nat_tests)) in
      let other : x ≢ rest.at.0 = grind (arith, nat_tests, a.0, rest.stands, has-without p ys x a.1.1) in
      record {
        at = rest.at;
        is = rw (ne_eqb y p ne) rest.is;
        stands = rw (ne_eqb p y ne') (grind (arith, nat_tests, rest.stands));
        back = rw (ne_eqb p y ne', ne_eqb x rest.at.0 other) (ap (λ (l : List ℕ). x ∷ l) rest.back);
      }
]

pub stands-before : (p : ℕ) (xs : List ℕ) → IsApart xs → has p xs ≡ true → StandsIn (without p xs) (before_in xs p)
stands-before p [] a h = cc
stands-before p (x ∷ xs) a h = elim (cases_eq x p) [
  | inl e ↦ rw (eq-eqb x p e) tt
  | inr ne ↦
      let ne' : p ≢ x = λ s. ne (sym s) in
      let b = before-in x xs p a (grind (arith, nat_tests)) in
      rw (ne_eqb x p ne, ne_eqb p x ne', b.is) b.stands
]

pub put-back : (p : ℕ) (xs : List ℕ) → IsApart xs → has p xs ≡ true → put_after (without p xs) (before_in xs p) p ≡ xs
put-back p [] a h = cc
put-back p (x ∷ xs) a h = elim (cases_eq x p) [
  | inl e ↦ rw (eq-eqb x p e, eq-eqb p x (sym e), e) refl
  | inr ne ↦
      let ne' : p ≢ x = λ s. ne (sym s) in
      let b = before-in x xs p a (grind (arith, nat_tests)) in
      rw (ne_eqb x p ne, ne_eqb p x ne', b.is) b.back
]

-- the same, where z is no pin
abbrev named_by : ℕ → ℕ → Option PinNo
named_by z a = if eqb a z then None else Some (pin a)

abbrev code_by : ℕ → Option PinNo → ℕ
code_by z None = z
code_by z (Some a) = a.0

before-by : (z x : ℕ) (xs : List ℕ) (p : ℕ) → has z xs ≡ false → has p xs ≡ true → named_by z (previous_from z x xs p) ≡ before_from (named_by z x) xs p
before-by z x [] p hz h = cc
before-by z x (y ∷ ys) p hz h = elim (cases_eq y p) [
  | inl e ↦ rw (eq-eqb y p e) refl
  | inr ne ↦
      let yz : y ≢ z = grind (arith, nat_tests) in
      let rest = before-by z y ys p (grind (arith, nat_tests)) (grind (arith, nat_tests)) in
      rw (ne_eqb y p ne) (rest ∙ ap (λ (b : Option PinNo). before_from b ys p) (let this : named_by z y ≡ Some (pin y) = rw (ne_eqb y z yz) refl in this))
]

pub before-named : (z : ℕ) (xs : List ℕ) (p : ℕ) → has z xs ≡ false → has p xs ≡ true → named_by z (previous_from z z xs p) ≡ before_in xs p
before-named z xs p hz h = before-by z z xs p hz h ∙ ap (λ (b : Option PinNo). before_from b xs p) (let this : named_by z z ≡ None = rw (eq-eqb z z refl) refl in this)

put-behind : (x : ℕ) (xs : List ℕ) (a p : ℕ) → x ≢ a → put x xs a p ≡ put_behind xs a p
put-behind x [] a p ne = refl
put-behind x (y ∷ ys) a p ne = elim (cases_eq y a) [
  | inl e ↦ rw (ne_eqb x a ne, eq-eqb y a e, e) (ap (λ (l : List ℕ). a ∷ l) (put-head a a ys p))
  | inr ne' ↦ rw (ne_eqb x a ne, ne_eqb y a ne') (ap (λ (l : List ℕ). y ∷ l) (put-behind y ys a p ne'))
]

pub put-coded : (z : ℕ) (xs : List ℕ) (b : Option PinNo) (p : ℕ) → has z xs ≡ false → StandsIn xs b → put z xs (code_by z b) p ≡ put_after xs b p
put-coded z xs None p hz s = put-head z z xs p
put-coded z xs (Some a) p hz s = put-behind z xs a.0 p (grind (arith, nat_tests))

pub has-mid : (xs ys : List ℕ) (q : ℕ) → has q (xs ++ q ∷ ys) ≡ true
has-mid [] ys q = grind (arith, nat_tests)
has-mid (x ∷ xs) ys q = grind (arith, nat_tests, has-mid xs ys q)
