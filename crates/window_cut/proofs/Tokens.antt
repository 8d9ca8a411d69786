-- The names of windows are tokens.
use Rattle.std.proofs.Common.{◌≡◌, ◌≤◌, ◌<◌, ◌+◌, ◌%◌, ◌^◌, ℕ, Bool, true, false, not, ◌&&◌, [], ◌∷◌, ◌++◌, refl, arith, nat_eq}
use Rattle.std.specs.Fmt.{decimal}
use Rattle.std.specs.List.{list_all}
use Rattle.std.proofs.lemmas.Bool.{and_parts, lt-ltb, ne_eqb}
use Rattle.std.proofs.lemmas.Fmt.{decimal_by_steps}
use Rattle.rm_base.proofs.Public.{both_and, list_all-join}
use Rattle.rm_base.specs.Words.{Word, is_word_byte}
use Rattle.rm_model.specs.WellFormed.{ends_in_backslash, is_token}
use Rattle.window_cut.specs.Windows.{window_name}

-- a byte of a word that is no backslash
abbrev is_plain : ℕ → Bool
is_plain b = is_word_byte b && not (nat_eq b 92)

plain_digit : (d : ℕ) → d < 10 → is_plain (48 + d) ≡ true
plain_digit d h =
    rw (lt-ltb 32 (48 + d) (omega arith), ne_eqb (48 + d) 35 (λ (e : 48 + d ≡ 35). let f : ⊥ = omega arith in f), ne_eqb (48 + d) 127 (λ (e : 48 + d ≡ 127). let f : ⊥ = omega arith in f), ne_eqb (48 + d) 92 (λ (e : 48 + d ≡ 92). let f : ⊥ = omega arith in f)) refl

pub AllPlain : Word → Type 0
AllPlain xs = list_all is_plain xs ≡ true

one_digit : (n : ℕ) → n < 10 → AllPlain ((48 + n) ∷ [])
unfolding AllPlain
one_digit n h = both_and (is_plain (48 + n)) true (plain_digit n h) refl

more_digits : (n : ℕ) (ds : Word) → 10 ≤ n → AllPlain ds → AllPlain (ds ++ ((48 + n % 10) ∷ []))
unfolding AllPlain
more_digits n ds h k = list_all-join is_plain ds ((48 + n % 10) ∷ []) k (both_and (is_plain (48 + n % 10)) true (plain_digit (n % 10) (omega arith)) refl)

plain_decimal : (n : ℕ) → n < 2 ^ 64 → AllPlain (decimal n)
plain_decimal = decimal_by_steps (λ n ds. AllPlain ds) one_digit more_digits

plain_token : (b : ℕ) (bs : Word) → list_all is_plain (b ∷ bs) ≡ true → is_token (b ∷ bs) ≡ true
plain_token b bs h = both_and (list_all is_word_byte (b ∷ bs)) _ (words (b ∷ bs) h) (opposite _ (ends (b ∷ bs) h))
  where
    words : (xs : Word) → list_all is_plain xs ≡ true → list_all is_word_byte xs ≡ true
    words [] h = refl
    words (x ∷ xs) h = let b = and_parts (is_plain x) (list_all is_plain xs) h in both_and (is_word_byte x) _ (and_parts (is_word_byte x) _ b.0).0 (words xs b.1)

    opposite : (b : Bool) → b ≡ false → not b ≡ true
    opposite true e = absurd cc
    opposite false e = refl

    no_backslash : (b : Bool) → not b ≡ true → b ≡ false
    no_backslash true e = absurd cc
    no_backslash false e = refl

    ends : (xs : Word) → list_all is_plain xs ≡ true → ends_in_backslash xs ≡ false
    ends [] h = refl
    ends (x ∷ []) h = no_backslash (nat_eq x 92) (and_parts (is_word_byte x) _ (and_parts (is_plain x) true h).0).1
    ends (x ∷ y ∷ ys) h = ends (y ∷ ys) (and_parts (is_plain x) (list_all is_plain (y ∷ ys)) h).1

pub window_token : (n : ℕ) → n < 2 ^ 64 → is_token (window_name n) ≡ true
unfolding AllPlain
window_token n small = plain_token 119 (decimal n) (both_and (is_plain 119) _ refl (plain_decimal n small))
