-- The names that are made are tokens.
use Rattle.std.proofs.Common.{◌≡◌, ◌≤◌, ◌<◌, ◌+◌, ◌%◌, ◌^◌, ℕ, zero, suc, Bool, true, false, not, ◌&&◌, List, [], ◌∷◌, ◌++◌, length, refl, arith, nat_eq}
use Rattle.std.specs.Prelude.{if◌then◌else◌}
use Rattle.std.specs.Fmt.{decimal}
use Rattle.std.specs.List.{list_all}
use Rattle.std.proofs.lemmas.Fmt.{decimal_by_steps}
use Rattle.std.proofs.lemmas.Bool.{and_parts, lt-ltb, ne_eqb}
use Rattle.rm_model.specs.WellFormed.{ends_in_backslash, is_token}
use Rattle.rm_model.specs.declared.parts.Model.{Model}
use Rattle.graph_to_model.specs.Names.{kept_names, is_free, least_free, free_prefix}
use Rattle.rm_base.proofs.Public.{both_and}
use Rattle.rm_base.specs.Words.{Word, is_word_byte}

-- a byte of a word that is no backslash
abbrev is_plain : ℕ → Bool
is_plain b = is_word_byte b && not (nat_eq b 92)

plain_digit : (d : ℕ) → d < 10 → is_plain (48 + d) ≡ true
plain_digit d h =
    rw (lt-ltb 32 (48 + d) (omega arith), ne_eqb (48 + d) 35 (λ (e : 48 + d ≡ 35). let f : ⊥ = omega arith in f), ne_eqb (48 + d) 127 (λ (e : 48 + d ≡ 127). let f : ⊥ = omega arith in f), ne_eqb (48 + d) 92 (λ (e : 48 + d ≡ 92). let f : ⊥ = omega arith in f)) refl

all-append : (xs ys : Word) → list_all is_plain xs ≡ true → list_all is_plain ys ≡ true → list_all is_plain (xs ++ ys) ≡ true
all-append [] ys h k = k
all-append (x ∷ xs) ys h k = let b = and_parts (is_plain x) (list_all is_plain xs) h in both_and (is_plain x) _ b.0 (all-append xs ys b.1 k)

pub AllPlain : Word → Type 0
AllPlain xs = list_all is_plain xs ≡ true

one_digit : (n : ℕ) → n < 10 → AllPlain ((48 + n) ∷ [])
unfolding AllPlain
one_digit n h = both_and (is_plain (48 + n)) true (plain_digit n h) refl

more_digits : (n : ℕ) (ds : Word) → 10 ≤ n → AllPlain ds → AllPlain (ds ++ ((48 + n % 10) ∷ []))
unfolding AllPlain
more_digits n ds h k = all-append ds _ k (both_and (is_plain (48 + n % 10)) true (plain_digit (n % 10) (omega arith)) refl)

plain-decimal : (n : ℕ) → n < 2 ^ 64 → AllPlain (decimal n)
plain-decimal = decimal_by_steps (λ n ds. AllPlain ds) one_digit more_digits

plain_token : (b : ℕ) (bs : Word) → list_all is_plain (b ∷ bs) ≡ true → is_token (b ∷ bs) ≡ true
plain_token b bs h = both_and (list_all is_word_byte (b ∷ bs)) _ (words (b ∷ bs) h) (opposite _ (ends (b ∷ bs) h))
  where
    words : (xs : Word) → list_all is_plain xs ≡ true → list_all is_word_byte xs ≡ true
    words [] h = refl
    words (x ∷ xs) h = let b = and_parts (is_plain x) (list_all is_plain xs) h in both_and (is_word_byte x) _ (and_parts (is_word_byte x) _ b.0).0 (words xs b.1)

    opposite : (b : Bool) → b ≡ false → not b ≡ true
    opposite true e = absurd cc
    opposite false e = refl

    no_backslash : (b : Bool) → not b ≡ true → b ≡ false
    no_backslash true e = absurd cc
    no_backslash false e = refl

    ends : (xs : Word) → list_all is_plain xs ≡ true → ends_in_backslash xs ≡ false
    ends [] h = refl
    ends (x ∷ []) h = no_backslash (nat_eq x 92) (and_parts (is_word_byte x) _ (and_parts (is_plain x) true h).0).1
    ends (x ∷ y ∷ ys) h = ends (y ∷ ys) (and_parts (is_plain x) (list_all is_plain (y ∷ ys)) h).1

pub least_le : (tries t : ℕ) (kept : List Word) → least_free tries t kept ≤ t + tries
least_le zero t kept = omega arith
least_le (suc tries) t kept = by_test (is_free kept t) (least_le tries (t + 1) kept)
  where
    by_test : (b : Bool) → least_free tries (t + 1) kept ≤ t + 1 + tries → (if b then t else least_free tries (t + 1) kept) ≤ t + suc tries
    by_test true h = omega arith
    by_test false h = omega arith

-- the prefix and a number are a token
pub made_token : (m : Model) (n : ℕ) → length (kept_names m) < 2 ^ 64 → n < 2 ^ 64 → is_token (free_prefix m ++ decimal n) ≡ true
unfolding AllPlain
made_token m n few small =
    let t = least_free (length (kept_names m)) 0 (kept_names m) in
    let le : t ≤ 0 + length (kept_names m) = least_le (length (kept_names m)) 0 (kept_names m) in
    let inner : list_all is_plain (decimal t ++ 95 ∷ []) ≡ true = all-append (decimal t) (95 ∷ []) (plain-decimal t (omega arith)) refl in
    plain_token 110 ((decimal t ++ 95 ∷ []) ++ decimal n) (both_and (is_plain 110) _ refl (all-append (decimal t ++ 95 ∷ []) (decimal n) inner (plain-decimal n small)))
