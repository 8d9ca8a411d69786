-- How often a word stands in a list of words.
use Rattle.std.proofs.Common.{◌≡◌, ◌+◌, ◌≤◌, ℕ, Bool, true, false, not, List, [], ◌∷◌, ◌++◌, filter, refl, ap, sym, ◌∙◌, arith}
use Rattle.std.specs.Prelude.{◌||◌}
use Rattle.std.specs.List.{list_all}
use Rattle.std.proofs.lemmas.Slice.Eq.{bytes_eq-Decides}
use Rattle.std.proofs.lemmas.Bool.{and_parts}
use Rattle.rm_model.specs.Words.{is_word}
use Rattle.rm_model.specs.Value.{is_among}
use Rattle.rm_model.specs.WellFormed.{is_distinct}
use Rattle.rm_base.proofs.Public.{false_from_not}
use Rattle.rm_base.specs.Numbers.{one_if}
use Rattle.rm_base.specs.Words.{Word}
use Rattle.rm_model.proofs.Public.{same_word}

abbrev pub count : Word → List Word → ℕ
count x [] = 0
count x (y ∷ ys) = one_if (is_word x y) + count x ys

pub eq_word : (x y : Word) → x ≡ y → is_word x y ≡ true
eq_word x y e = (bytes_eq-Decides x y).1 e

-- a test is true or false
pub data Told (b : Bool) : Type 0 where
  IsSo : b ≡ true → Told b
  NotSo : b ≡ false → Told b

pub told : (b : Bool) → Told b
told true = IsSo refl
told false = NotSo refl

pub other_way : (x y : Word) → is_word x y ≡ false → is_word y x ≡ false
other_way x y e = elim (told (is_word y x)) [ IsSo t ↦ absurd (different (sym (eq_word x y (sym (same_word y x t))) ∙ e)) | NotSo t ↦ t ]
  where
    different : true ≡ false → ⊥
    different h = cc

pub count-append : (x : Word) (ys zs : List Word) → count x (ys ++ zs) ≡ count x ys + count x zs
count-append x [] zs = omega arith
count-append x (y ∷ ys) zs = omega (arith, count-append x ys zs)

pub or_parts : (a b : Bool) → a || b ≡ false → (a ≡ false) × (b ≡ false)
or_parts true b e = absurd cc
or_parts false b e = (refl, e)

pub count_absent : (x : Word) (ys : List Word) → is_among ys x ≡ false → count x ys ≡ 0
count_absent x [] e = refl
count_absent x (y ∷ ys) e =
    let h = or_parts (is_word x y) (is_among ys x) e in
    let rest : count x ys ≡ 0 = count_absent x ys h.1 in
    rw (h.0) (omega arith)

pub count_present : (x : Word) (ys : List Word) → is_among ys x ≡ true → 1 ≤ count x ys
count_present x [] e = absurd cc
count_present x (y ∷ ys) e = elim (told (is_word x y)) [
  | IsSo t ↦ rw t (omega arith)
  | NotSo t ↦ let rest : is_among ys x ≡ true = or_right (is_word x y) (is_among ys x) t e in rw t (omega (arith, count_present x ys rest))
]
  where
    or_right : (a b : Bool) → a ≡ false → a || b ≡ true → b ≡ true
    or_right a b p q = rw p at q

pub present_count : (x : Word) (ys : List Word) → 1 ≤ count x ys → is_among ys x ≡ true
present_count x ys h = elim (told (is_among ys x)) [ IsSo t ↦ t | NotSo t ↦ let none : count x ys ≡ 0 = count_absent x ys t in absurd (omega arith) ]

-- each name once
pub distinct_count : (ys : List Word) → is_distinct ys ≡ true → (x : Word) → count x ys ≤ 1
distinct_count [] e x = omega arith
distinct_count (y ∷ ys) e x =
    let h = and_parts (not (is_among ys y)) (is_distinct ys) e in
    let rest : count x ys ≤ 1 = distinct_count ys h.1 x in
    elim (told (is_word x y)) [
      | IsSo t ↦ let none : count x ys ≡ 0 = count_absent x ys (ap (λ z. is_among ys z) (same_word x y t) ∙ false_from_not (is_among ys y) h.0) in rw t (omega arith)
      | NotSo t ↦ rw t (omega arith)
    ]

-- names that are not among others are counted when they are taken out of those
pub count_fresh : (x : Word) (olds ys : List Word) → count x olds ≡ 0 → count x (filter (λ y. not (is_among olds y)) ys) ≡ count x ys
count_fresh x olds [] e = refl
count_fresh x olds (y ∷ ys) e =
    let rest : count x (filter (λ y. not (is_among olds y)) ys) ≡ count x ys = count_fresh x olds ys e in
    elim (told (is_among olds y)) [
      | IsSo t ↦
          let other : is_word x y ≡ false = elim (told (is_word x y)) [
            | IsSo s ↦ let some : 1 ≤ count x olds = count_present x olds (ap (is_among olds) (same_word x y s) ∙ t) in absurd (omega arith)
            | NotSo s ↦ s
          ] in rw (t, other) (omega arith)
      | NotSo t ↦ rw t (ap (λ n. one_if (is_word x y) + n) rest)
    ]

pub count_fresh_least : (x : Word) (olds ys : List Word) → count x (filter (λ y. not (is_among olds y)) ys) ≤ count x ys
count_fresh_least x olds [] = omega arith
count_fresh_least x olds (y ∷ ys) =
    let rest : count x (filter (λ y. not (is_among olds y)) ys) ≤ count x ys = count_fresh_least x olds ys in
    elim (told (is_among olds y)) [ IsSo t ↦ rw t (omega arith) | NotSo t ↦ rw t (omega arith) ]

-- what passes a test, as each of a list does
pub all_count : (test : Word → Bool) (x : Word) (ys : List Word) → list_all test ys ≡ true → 1 ≤ count x ys → test x ≡ true
all_count test x [] e h = absurd (omega arith)
all_count test x (y ∷ ys) e h =
    let a = and_parts (test y) (list_all test ys) e in
    elim (told (is_word x y)) [
      | IsSo t ↦ ap test (same_word x y t) ∙ a.0
      | NotSo t ↦ let more : 1 ≤ count x ys = less (is_word x y) (count x ys) t h in all_count test x ys a.1 more
    ]
  where
    less : (b : Bool) (n : ℕ) → b ≡ false → 1 ≤ one_if b + n → 1 ≤ n
    less b n e h = omega (arith, rw e at h)
