-- The number of an option, to clap and by the rules.
use Rattle.std.proofs.Common.{◌≡◌, ◌<◌, ◌^◌, ◌&&◌, ℕ, Bool, true, false, refl, ap, ap₂, List, [], ◌∷◌, ◌++◌, Option, Some, None, arith}
use Rattle.std.specs.Prelude.{if◌then◌else◌, nat_le, nat_lt}
use Rattle.std.specs.Str.Parse.{digits_value, without_leading_plus}
use Rattle.std.proofs.lemmas.Bool.{leb-true, lt-ltb}
use Rattle.clap.specs.ValueTests.{is_numeral, is_unsigned_in}
use Rattle.clap.specs.Walk.{Text}
use Rattle.clap.proofs.WalkLemmas.{both}
use Rattle.word_reading.specs.Words.{at_most_once, number}
use Rattle.word_reading.specs.Inner.Commands.{number_in}

-- the number that the digits of a text write
abbrev pub value_of : Text → ℕ
value_of v = digits_value 10 (without_leading_plus v)

abbrev chosen : Bool → ℕ → Option ℕ
chosen b n = if b then Some n else None

within_bound : (n high bound : ℕ) → high < bound → nat_le n high ≡ true → nat_lt n bound ≡ true
within_bound n high bound lt e = let le = leb-true n high e in lt-ltb n bound (omega arith)

none_passes : (num big lo hi : Bool) → (hi ≡ true → big ≡ true) → (num && (big && (lo && hi))) ≡ false → ((num && lo) && hi) ≡ false
none_passes false big lo hi h e = refl
none_passes true big false hi h e = refl
none_passes true big true false h e = refl
none_passes true true true true h e = e
none_passes true false true true h e = let f = h refl in cc

module _ (low high : ℕ) (v : Text) where
  pub number_none : high < 2 ^ 64 → is_unsigned_in low high v ≡ false → number low high v ≡ None
  number_none lt e = ap (λ b. chosen b (value_of v)) (none_passes (is_numeral (without_leading_plus v)) (nat_lt (value_of v) (2 ^ 64)) (nat_le low (value_of v)) (nat_le (value_of v) high) (within_bound (value_of v) high (2 ^ 64) lt) e)

  pub number_some : is_unsigned_in low high v ≡ true → number low high v ≡ Some (value_of v)
  number_some e =
      let a = both (is_numeral (without_leading_plus v)) (nat_lt (value_of v) (2 ^ 64) && (nat_le low (value_of v) && nat_le (value_of v) high)) e in
      let b = both (nat_lt (value_of v) (2 ^ 64)) (nat_le low (value_of v) && nat_le (value_of v) high) a.1 in
      let c = both (nat_le low (value_of v)) (nat_le (value_of v) high) b.1 in
      ap (λ t. chosen t (value_of v)) (ap₂ (λ x y. x && y) (ap₂ (λ x y. x && y) a.0 c.0) c.1)

  pub number_in_some : (bits : ℕ) → high < 2 ^ bits → is_unsigned_in low high v ≡ true → number_in bits v ≡ Some (value_of v)
  number_in_some bits lt e =
      let a = both (is_numeral (without_leading_plus v)) (nat_lt (value_of v) (2 ^ 64) && (nat_le low (value_of v) && nat_le (value_of v) high)) e in
      let b = both (nat_lt (value_of v) (2 ^ 64)) (nat_le low (value_of v) && nat_le (value_of v) high) a.1 in
      let c = both (nat_le low (value_of v)) (nat_le (value_of v) high) b.1 in
      ap (λ t. chosen t (value_of v)) (ap₂ (λ x y. x && y) a.0 (within_bound (value_of v) high (2 ^ bits) lt c.1))

-- ---- an option that stands at most once

pub twice : (low high default : ℕ) (x : Text) (xs : List Text) (y : Text) (ys : List Text) → at_most_once low high default ((x ∷ xs) ++ y ∷ ys) ≡ None
twice low high default x [] y ys = refl
twice low high default x (z ∷ zs) y ys = refl

pub bad_value : (low high default : ℕ) (v : Text) (vs : List Text) → number low high v ≡ None → at_most_once low high default (v ∷ vs) ≡ None
bad_value low high default v [] e = e
bad_value low high default v (w ∷ ws) e = refl
