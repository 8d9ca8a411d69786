-- What the getters of clap's matches read, by the rows.
use Rattle.std.proofs.Common.{◌≡◌, ◌∙◌, ◌<◌, ◌≤◌, ◌-◌, ◌^◌, ◌&&◌, ℕ, Bool, true, false, refl, sym, ap, List, [], ◌∷◌, Option, Some, None, Ok, Err, Result, arith, lit≤}
use Rattle.std.specs.Prelude.{if◌then◌else◌, nat_le, nat_lt, option_and_then}
use Rattle.std.specs.Result.{result_ok}
use Rattle.std.specs.List.{list_all}
use Rattle.std.specs.Char.{digit_value}
use Rattle.std.specs.Str.Parse.{AllDigits, ExplainsUnsignedError, HasUnsignedDigitsIfOk, ParsesUnsigned, digits_value, without_leading_plus, IsNumeral}
use Rattle.std.proofs.lemmas.Bool.{le-leb, leb-true, ltb-true, lt-ltb}
use Rattle.std.specs.declared.num.ParseIntError.{ParseIntError}
use Rattle.clap.specs.ValueTests.{is_numeral}
use Rattle.clap.specs.Matches.{ReadsOne, one_text}
use Rattle.clap.specs.Walk.{Text, rows_of}
use Rattle.clap.specs.declared.parser.matches.Found.{Found}
use Rattle.clap.proofs.WalkLemmas.{one_text-rows, both}
use Rattle.word_reading.specs.Inner.Commands.{number_at, number_in}
use Rattle.word_reading.specs.Words.{number}
use Rattle.word_reading.proofs.Numbers.{value_of}

-- ---- a numeral, as a test

digits_from : (ds : List ℕ) → list_all (λ d. nat_lt (digit_value d) 10) ds ≡ true → AllDigits 10 ds
digits_from [] e = tt
digits_from (d ∷ ds) e = let parts = both _ _ e in (ltb-true _ _ parts.0, digits_from ds parts.1)

digits_back : (ds : List ℕ) → AllDigits 10 ds → list_all (λ d. nat_lt (digit_value d) 10) ds ≡ true
digits_back [] h = refl
digits_back (d ∷ ds) h = rw (lt-ltb (digit_value d) 10 h.0) (digits_back ds h.1)

pub numeral_from : (ds : List ℕ) → is_numeral ds ≡ true → IsNumeral 10 ds
numeral_from ds e = let parts = both _ _ e in (ltb-true _ _ parts.0, digits_from ds parts.1)

pub numeral_back : (ds : List ℕ) → IsNumeral 10 ds → is_numeral ds ≡ true
numeral_back ds h = rw (lt-ltb _ _ h.0, digits_back ds h.1) refl

-- ---- a number that was read

fits_in : ℕ → Text → Bool
fits_in k t = is_numeral (without_leading_plus t) && nat_lt (digits_value 10 (without_leading_plus t)) (2 ^ k)

fits_from : (k : ℕ) (t : Text) → fits_in k t ≡ true → IsNumeral 10 (without_leading_plus t) × (digits_value 10 (without_leading_plus t) < 2 ^ k)
unfolding fits_in
fits_from k t e = let parts = both _ _ e in (numeral_from _ parts.0, ltb-true _ _ parts.1)

fits_back : (k : ℕ) (t : Text) → IsNumeral 10 (without_leading_plus t) × (digits_value 10 (without_leading_plus t) < 2 ^ k) → fits_in k t ≡ true
unfolding fits_in
fits_back k t h = rw (numeral_back _ h.0, lt-ltb _ _ h.1) refl

number_when : (k : ℕ) (t : Text) → fits_in k t ≡ true → Some (digits_value 10 (without_leading_plus t)) ≡ number_in k t
unfolding fits_in
number_when k t e = rw e refl

number_unless : (k : ℕ) (t : Text) → fits_in k t ≡ false → None ≡ number_in k t
unfolding fits_in
number_unless k t e = rw e refl

number_read : (E : Type 0) (k : ℕ) (gives : Text → Result ℕ E → Type 0) → ((t : Text) (r : Result ℕ E) → gives t r → ParsesUnsigned k 10 t r)
    → (t : Text) (r : Option ℕ) → ReadsOne gives t r → r ≡ number_in k t
number_read E k gives sound t (Some v) h = let s = sound t (Ok v) h in ap (λ n. Some n) s.1 ∙ number_when k t (fits_back k t s.0)
number_read E k gives sound t None h = go (fits_in k t) refl
  where
    go : (b : Bool) → fits_in k t ≡ b → None ≡ number_in k t
    go true e = absurd (sound t (Err h.0) h.1 (fits_from k t e))
    go false e = number_unless k t e

-- a text that is parsed as a number of 64 bits
parsed_in : (t : Text) (r : Result ℕ ParseIntError) → ParsesUnsigned 64 10 t r → result_ok r ≡ number_in 64 t
parsed_in t (Ok v) s = ap (λ n. Some n) s.1 ∙ number_when 64 t (fits_back 64 t s.0)
parsed_in t (Err x) s = go (fits_in 64 t) refl
  where
    go : (b : Bool) → fits_in 64 t ≡ b → None ≡ number_in 64 t
    go true e = absurd (s (fits_from 64 t e))
    go false e = number_unless 64 t e

below_bound : (n b : ℕ) → 1 ≤ b → nat_le n (b - 1) ≡ nat_lt n b
below_bound n b some = go (nat_lt n b) refl (nat_le n (b - 1)) refl
  where
    go : (s : Bool) → nat_lt n b ≡ s → (t : Bool) → nat_le n (b - 1) ≡ t → t ≡ s
    go true e true f = refl
    go false e false f = refl
    go true e false f = let lt = ltb-true n b e in let le : n ≤ b - 1 = omega arith in let bad = le-leb n (b - 1) le in cc
    go false e true f = let le = leb-true n (b - 1) f in let lt : n < b = omega arith in let bad = lt-ltb n b lt in cc

pub parsed : (t : Text) (r : Result ℕ ParseIntError) → ParsesUnsigned 64 10 t r → result_ok r ≡ number 0 (2 ^ 64 - 1) t
parsed t r s = parsed_in t r s ∙ sym (same (value_of t) (is_numeral (without_leading_plus t)))
  where
    same : (n : ℕ) (num : Bool) → (if (num && nat_le 0 n) && nat_le n (2 ^ 64 - 1) then Some n else None) ≡ (if num && nat_lt n (2 ^ 64) then Some n else None)
    same n true = rw (le-leb 0 n (omega arith)) (ap (λ b. if b then Some n else None) (below_bound n (2 ^ 64) (lit≤ tt)))
    same n false = refl

module _ (k : ℕ) where
  abbrev Reads : Text → Result ℕ ParseIntError → Type 0
  Reads t r = ParsesUnsigned k 10 t r × ExplainsUnsignedError 10 t r × HasUnsignedDigitsIfOk t r

  pub number_got : (f : Found) (id : Text) (r : Option ℕ) → (one_text f id ≡ None → r ≡ None)
      → ((t : Text) → one_text f id ≡ Some t → ReadsOne Reads t r) → r ≡ number_at k id (rows_of f)
  number_got f id r none some = go (one_text f id) refl ∙ ap (option_and_then (number_in k)) (one_text-rows f id)
    where
      go : (o : Option Text) → one_text f id ≡ o → r ≡ option_and_then (number_in k) (one_text f id)
      go None e = rw e (none e)
      go (Some t) e = rw e (number_read _ k Reads (λ t r h. h.0) t r (some t e))
