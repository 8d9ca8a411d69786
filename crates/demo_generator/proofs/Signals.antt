-- The names of the signals: tokens, and no two alike.
use Rattle.std.proofs.Common.{lit<, ◌^◌, ◌-◌, ◌≡◌, ◌∙◌, ◌+◌, ◌==◌, ◌&&◌, ◌||◌, ◌<◌, ◌≤◌, ℕ, zero, suc, Bool, true, false, not, refl, sym, ap, ap₂, [], ◌∷◌, map, arith}
use Rattle.std.specs.Prelude.{if◌then◌else◌, nat_lt}
use Rattle.std.specs.List.{list_all}
use Rattle.std.specs.Fmt.{decimal, digits}
use Rattle.std.specs.Str.Parse.{digits_value}
use Rattle.std.proofs.lemmas.Bool.{and_parts, ltb-false}
use Rattle.std.proofs.lemmas.Bool.Decides.{Decides-eqb}
use Rattle.std.proofs.lemmas.Fmt.{decimal_is_IsNumeral}
use Rattle.std.proofs.lemmas.Slice.Eq.{bytes_eq-Decides}
use Rattle.std.proofs.Math.Bool.{or-true}
use Rattle.rm_model.specs.Words.{is_word}
use Rattle.rm_model.specs.Value.{is_among}
use Rattle.rm_model.specs.WellFormed.{is_distinct, is_token}
use Rattle.demo_generator.specs.Generator.{numbers_from, signal}
use Rattle.rm_base.specs.Words.{Word}

-- what holds of each number of a run
at_number : (p : ℕ → Bool) (first n k : ℕ) → list_all p (numbers_from first n) ≡ true → first ≤ k → k < first + n → p k ≡ true
at_number p first zero k all low high = absurd (omega arith)
at_number p first (suc n) k all low high = go (first == k) refl (at_number p (first + 1) n k (and_parts (p first) (list_all p (numbers_from (first + 1) n)) all).1)
  where
    go : (t : Bool) → (first == k) ≡ t → (first + 1 ≤ k → k < first + 1 + n → p k ≡ true) → p k ≡ true
    go true e later = ap p (sym ((Decides-eqb first k).0 e)) ∙ (and_parts (p first) (list_all p (numbers_from (first + 1) n)) all).0
    go false e later =
        let ne : first ≡ k → ⊥ = λ q. let bad = (Decides-eqb first k).1 q in cc in
        later (omega arith) (omega arith)

tokens : list_all (λ k. is_token (signal k)) (numbers_from 0 76) ≡ true
unfolding digits
tokens = refl

pub signal_is_token : (k : ℕ) → k < 76 → is_token (signal k) ≡ true
signal_is_token k lt = at_number (λ n. is_token (signal n)) 0 76 k tokens (omega arith) (omega arith)

-- ---- the number of a signal, read from its name

abbrev pub number_of : Word → ℕ
number_of [] = 0
number_of (b ∷ bs) = if b == 116 then 16 + digits_value 10 bs else digits_value 10 bs

small : (n : ℕ) → n < 76 → n < 2 ^ 64
small n lt = let big : 76 < 2 ^ 64 = lit< tt in omega arith

pub number_of-signal : (n : ℕ) → n < 76 → number_of (signal n) ≡ n
number_of-signal n lt = go (nat_lt n 16) refl
  where
    go : (t : Bool) → nat_lt n 16 ≡ t → number_of (signal n) ≡ n
    go true e = rw e (decimal_is_IsNumeral n (small n lt)).1
    go false e =
        let past : 16 ≤ n = ltb-false n 16 e in
        let value : digits_value 10 (decimal (n - 16)) ≡ n - 16 = (decimal_is_IsNumeral (n - 16) (small (n - 16) (omega arith))).1 in
        rw (e, value) (omega arith)

apart : (a b : ℕ) → a < 76 → b < 76 → (a ≡ b → ⊥) → is_word (signal a) (signal b) ≡ false
apart a b la lb ne = go (is_word (signal a) (signal b)) refl
  where
    go : (t : Bool) → is_word (signal a) (signal b) ≡ t → is_word (signal a) (signal b) ≡ false
    go false e = e
    go true e = absurd (ne (sym (number_of-signal a la) ∙ ap number_of ((bytes_eq-Decides (signal a) (signal b)).0 e) ∙ number_of-signal b lb))

-- ---- the signals of a run of numbers

earlier : (first n k : ℕ) → k < first → first + n ≤ 76 → is_among (map signal (numbers_from first n)) (signal k) ≡ false
earlier first zero k lt le = refl
earlier first (suc n) k lt le = ap₂ (λ a b. a || b) (apart k first (omega arith) (omega arith) (λ e. omega arith)) (earlier (first + 1) n k (omega arith) (omega arith))

pub distinct : (first n : ℕ) → first + n ≤ 76 → is_distinct (map signal (numbers_from first n)) ≡ true
distinct first zero le = refl
distinct first (suc n) le = ap₂ (λ a b. not a && b) (earlier (first + 1) n first (omega arith) (omega arith)) (distinct (first + 1) n (omega arith))

pub among : (first n k : ℕ) → first ≤ k → k < first + n → is_among (map signal (numbers_from first n)) (signal k) ≡ true
among first zero k low high = absurd (omega arith)
among first (suc n) k low high = go (first == k) refl (among (first + 1) n k)
  where
    go : (t : Bool) → (first == k) ≡ t → (first + 1 ≤ k → k < first + 1 + n → is_among (map signal (numbers_from (first + 1) n)) (signal k) ≡ true) → is_among (map signal (numbers_from first (suc n))) (signal k) ≡ true
    go true e later = ap (λ b. b || is_among (map signal (numbers_from (first + 1) n)) (signal k)) ((bytes_eq-Decides (signal k) (signal first)).1 (ap signal (sym ((Decides-eqb first k).0 e))))
    go false e later =
        let ne : first ≡ k → ⊥ = λ q. let bad = (Decides-eqb first k).1 q in cc in
        ap (λ b. is_word (signal k) (signal first) || b) (later (omega arith) (omega arith)) ∙ or-true (is_word (signal k) (signal first))

pub all_of : (p : Word → Bool) → ((k : ℕ) → k < 76 → p (signal k) ≡ true) → (first n : ℕ) → first + n ≤ 76 → list_all p (map signal (numbers_from first n)) ≡ true
all_of p each first zero le = refl
all_of p each first (suc n) le = ap₂ (λ a b. a && b) (each first (omega arith)) (all_of p each (first + 1) n (omega arith))
