-- What a word looks like, to clap and by the rules.
use Rattle.std.proofs.Common.{◌∙◌, ◌≡◌, ◌==◌, ◌<◌, ◌⊎◌, inl, inr, ℕ, Bool, true, false, refl, sym, ap, List, [], ◌∷◌, length, Some, None, arith}
use Rattle.std.specs.Prelude.{codes, slice_get}
use Rattle.std.specs.Str.{bytes_eq, chars, IsUtf8}
use Rattle.std.specs.Prelude.{encode_utf8_all}
use Rattle.std.proofs.lemmas.Str.{IsCharBoundary-after_ascii, IsUtf8-drop, encodes-chars}
use Rattle.std.proofs.lemmas.Bool.Decides.{nat_tests}
use Rattle.clap.specs.Lexer.{long_of, name_and_value, short_of}
use Rattle.word_reading.specs.Words.{after_hyphens, begins_with_hyphen, is_option}

-- two hyphens (45)
abbrev pub is_dashes : List ℕ → Bool
is_dashes w = bytes_eq w (45 ∷ 45 ∷ [])

pub data Class (w : List ℕ) : Type 0 where
  plain : is_dashes w ≡ false → long_of w ≡ None → short_of w ≡ None → is_option w ≡ false
      → (begins_with_hyphen w ≡ false) ⊎ (w ≡ codes "-") → Class w
  dashes : is_dashes w ≡ true → begins_with_hyphen w ≡ true → Class w
  long : (text : List ℕ) → is_dashes w ≡ false → long_of w ≡ Some (name_and_value text) → is_option w ≡ true
      → begins_with_hyphen w ≡ true → after_hyphens w ≡ Some text → Class w
  short : (f : ℕ) (fs : List ℕ) → is_dashes w ≡ false → long_of w ≡ None → short_of w ≡ Some (f ∷ fs) → is_option w ≡ true
      → begins_with_hyphen w ≡ true → after_hyphens w ≡ None → w ≡ 45 ∷ f ∷ fs → Class w

is_45 : (b : ℕ) → (b == 45) ≡ true → b ≡ 45
is_45 b e = grind (arith, nat_tests)

pub classify : (w : List ℕ) → Class w
classify [] = plain refl refl refl refl (inl refl)
classify (b ∷ []) = go (b == 45) refl
  where
    go : (t : Bool) → (b == 45) ≡ t → Class (b ∷ [])
    go true e = plain (rw e refl) (rw e refl) (rw e refl) refl (inr (ap (λ x. x ∷ []) (is_45 b e)))
    go false e = plain (rw e refl) (rw e refl) (rw e refl) refl (inl e)
classify (b ∷ y ∷ ys) = go (b == 45) refl
  where
    two : (t : Bool) → (b == 45) ≡ true → (y == 45) ≡ t → (zs : List ℕ) → zs ≡ ys → Class (b ∷ y ∷ zs)
    two true e f [] same = dashes (rw (e, f) refl) e
    two true e f (z ∷ zs) same = long (z ∷ zs) (rw (e, f) refl) (rw (e, f) refl) (rw e refl) e (rw (e, f) refl)
    two false e f zs same = short y zs (rw (e, f) refl) (rw (e, f) refl) (rw (e, f) refl) (rw e refl) e (rw (e, f) refl) (ap (λ x. x ∷ y ∷ zs) (is_45 b e))

    go : (t : Bool) → (b == 45) ≡ t → Class (b ∷ y ∷ ys)
    go true e = two (y == 45) e refl ys refl
    go false e = plain (rw e refl) (rw e refl) (rw e refl) (rw e refl) (inl e)

-- a text that isn't empty has a first character
first_char : (bs : List ℕ) → IsUtf8 bs → 0 < length bs → (x : ℕ) × (slice_get (chars bs) 0 ≡ Some x)
first_char bs ok lt = go (chars bs) refl
  where
    go : (cs : List ℕ) → chars bs ≡ cs → (x : ℕ) × (slice_get (chars bs) 0 ≡ Some x)
    go [] e = let empty : bs ≡ [] = sym (encodes-chars bs ok) ∙ ap encode_utf8_all e in let none : 0 ≡ length bs = ap length (sym empty) in absurd (omega arith)
    go (x ∷ xs) e = (x, rw e refl)

pub flag_char : (f : ℕ) (fs : List ℕ) → IsUtf8 (45 ∷ f ∷ fs) → (x : ℕ) × (slice_get (chars (f ∷ fs)) 0 ≡ Some x)
flag_char f fs ok = first_char (f ∷ fs) (IsUtf8-drop (45 ∷ f ∷ fs) 1 ok (IsCharBoundary-after_ascii (45 ∷ f ∷ fs) 0 ok (omega arith) (omega arith))) (omega arith)
