-- Which bytes are which.
use Rattle.std.proofs.Common.{◌≡◌, ℕ, ◌<◌, ◌≤◌, Bool, true, false, not, ◌&&◌, ◌||◌, inl, inr, refl, sym, ◌∙◌, subst, arith}
use Rattle.std.specs.Prelude.{◌==◌, nat_lt, ◌⊎◌}
use Rattle.std.proofs.lemmas.Bool.Decides.{eqb_tells}
use Rattle.std.proofs.lemmas.Bool.{ltb-true, ltb-false, le-ltb}
use Rattle.std.proofs.Math.Bool.{and-true, or-false, or-true}
use Rattle.blif_lines.specs.Inner.Cuts.{is_blank_byte, is_control_byte, is_inner}
use Rattle.rm_base.proofs.Public.{and_first, and_second, false_from_not}
use Rattle.rm_base.specs.Words.{is_word_byte}

clash : {A : Type 0} → false ≡ true → A
clash e = cc

-- a byte that passes one test and is none of those that fail another
pub word_not_blank : (b : ℕ) → is_word_byte b ≡ true → is_blank_byte b ≡ false
word_not_blank b w = elim (eqb_tells b 32) [
  | inl t ↦ clash (subst (λ (n : ℕ). is_word_byte n ≡ true) t.1 w)
  | inr t ↦ elim (eqb_tells b 9) [
    | inl u ↦ clash (subst (λ (n : ℕ). is_word_byte n ≡ true) u.1 w)
    | inr u ↦ elim (eqb_tells b 13) [
      | inl v ↦ clash (subst (λ (n : ℕ). is_word_byte n ≡ true) v.1 w)
      | inr v ↦ rw (t.0, u.0, v.0) refl
    ]
  ]
]

pub word_inner : (b : ℕ) → is_word_byte b ≡ true → ((b == 10) || (b == 35)) ≡ false
word_inner b w = elim (eqb_tells b 10) [
  | inl t ↦ clash (subst (λ (n : ℕ). is_word_byte n ≡ true) t.1 w)
  | inr t ↦ elim (eqb_tells b 35) [
    | inl u ↦ clash (subst (λ (n : ℕ). is_word_byte n ≡ true) u.1 w)
    | inr u ↦ rw (t.0, u.0) refl
  ]
]

pub blank_inner : (b : ℕ) → is_blank_byte b ≡ true → ((b == 10) || (b == 35)) ≡ false
blank_inner b w = elim (eqb_tells b 10) [
  | inl t ↦ clash (subst (λ (n : ℕ). is_blank_byte n ≡ true) t.1 w)
  | inr t ↦ elim (eqb_tells b 35) [
    | inl u ↦ clash (subst (λ (n : ℕ). is_blank_byte n ≡ true) u.1 w)
    | inr u ↦ rw (t.0, u.0) refl
  ]
]

pub blank_no_slash : (b : ℕ) → is_blank_byte b ≡ true → (b == 92) ≡ false
blank_no_slash b w = elim (eqb_tells b 92) [ inl t ↦ clash (subst (λ (n : ℕ). is_blank_byte n ≡ true) t.1 w) | inr t ↦ t.0 ]

pub control_no_slash : (b : ℕ) → is_control_byte b ≡ true → (b == 92) ≡ false
control_no_slash b w = elim (eqb_tells b 92) [ inl t ↦ clash (subst (λ (n : ℕ). is_control_byte n ≡ true) t.1 w) | inr t ↦ t.0 ]

pub control_inner : (b : ℕ) → is_control_byte b ≡ true → ((b == 10) || (b == 35)) ≡ false
control_inner b w = elim (eqb_tells b 10) [
  | inl t ↦ clash (subst (λ (n : ℕ). is_control_byte n ≡ true) t.1 w)
  | inr t ↦ elim (eqb_tells b 35) [
    | inl u ↦ clash (subst (λ (n : ℕ). is_control_byte n ≡ true) u.1 w)
    | inr u ↦ rw (t.0, u.0) refl
  ]
]

not_LF : (b : ℕ) → ((b == 10) || (b == 35)) ≡ false → is_inner b ≡ true
not_LF b e = elim (eqb_tells b 10) [ inl t ↦ clash (sym (rw t.0 at e)) | inr t ↦ rw t.0 refl ]

pub word_is_inner : (b : ℕ) → is_word_byte b ≡ true → is_inner b ≡ true
word_is_inner b w = not_LF b (word_inner b w)

pub blank_is_inner : (b : ℕ) → is_blank_byte b ≡ true → is_inner b ≡ true
blank_is_inner b w = not_LF b (blank_inner b w)

pub control_no_blank : (b : ℕ) → is_control_byte b ≡ true → is_blank_byte b ≡ false
control_no_blank b w = false_from_not (is_blank_byte b) (and_first (not (is_blank_byte b)) _ w)

-- the test of layout, which knows no LF
pub control_is : (b : ℕ) → is_control_byte b ≡ true → (not (is_blank_byte b) && (nat_lt b 32 || (b == 127))) ≡ true
control_is b w = let e : (nat_lt b 32 || (b == 127)) ≡ true = and_second (not (b == 10)) _ (and_second (not (is_blank_byte b)) _ w) in rw (control_no_blank b w, e) refl

pub word_no_control : (b : ℕ) → is_word_byte b ≡ true → (not (is_blank_byte b) && (nat_lt b 32 || (b == 127))) ≡ false
word_no_control b w =
    let large : nat_lt 32 b ≡ true = and_first (nat_lt 32 b) _ w in
    let rest : (not (b == 35) && not (b == 127)) ≡ true = and_second (nat_lt 32 b) _ w in
    let other : (b == 127) ≡ false = false_from_not (b == 127) (and_second (not (b == 35)) _ rest) in
    let more : 32 < b = ltb-true 32 b large in
    let low : nat_lt b 32 ≡ false = le-ltb b 32 (omega arith) in
    rw (word_not_blank b w, low, other) refl

-- what is neither of a word nor a control byte
pub boundary : (b : ℕ) → is_word_byte b ≡ false → is_control_byte b ≡ false → (is_blank_byte b ≡ true) ⊎ (((b == 10) || (b == 35)) ≡ true)
boundary b w c = at (is_blank_byte b) (b == 10) refl refl
  where
    at : (blank lf : Bool) → is_blank_byte b ≡ blank → (b == 10) ≡ lf → (is_blank_byte b ≡ true) ⊎ (((b == 10) || (b == 35)) ≡ true)
    at true lf e f = inl e
    at false true e f = inr (rw f refl)
    at false false e f = elim (eqb_tells b 35) [
      | inl t ↦ inr (rw (f, t.0) refl)
      | inr t ↦ elim (eqb_tells b 127) [
        | inl u ↦ let wrong : (nat_lt b 32 || true) ≡ false = rw (e, f, u.0) at c in clash (sym wrong ∙ or-true (nat_lt b 32))
        | inr u ↦
            let large : nat_lt 32 b ≡ false = sym (and-true (nat_lt 32 b)) ∙ rw (t.0, u.0) at w in
            let most : b ≤ 32 = ltb-false 32 b large in
            let low : nat_lt b 32 ≡ false = sym (or-false (nat_lt b 32)) ∙ rw (e, f, u.0) at c in
            let least : 32 ≤ b = ltb-false b 32 low in
            let is : 32 ≡ b = omega arith in
            clash (sym (subst (λ (n : ℕ). is_blank_byte n ≡ false) (sym is) e))
      ]
    ]
