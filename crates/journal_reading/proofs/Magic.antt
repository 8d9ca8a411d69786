-- The eight bytes that tell version 2.
use Rattle.std.proofs.Common.{◌≡◌, ◌≢◌, ◌⊎◌, inl, inr, ℕ, zero, suc, ◌+◌, ◌<◌, ◌≤◌, Bool, true, false, eqb, List, [], ◌∷◌, ◌++◌, length, drop, slice_index, Option, Some, None, refl, ap, sym, subst, ◌∙◌, arith, append_assoc}
use Rattle.std.proofs.lemmas.List.{drop_all}
use Rattle.std.proofs.lemmas.Bool.Decides.{nat_tests, eqb_tells}
use Rattle.journal_text.specs.Pieces.{HasNo}
use Rattle.journal_text.specs.Streams.{HasLine}
use Rattle.journal_text.specs.Text.{entries_text}
use Rattle.journal_text.specs.declared.record.Entry.{Entry}
use Rattle.journal_text.specs.declared.record.Entry.TheVariants as entry
use Rattle.journal_binary.specs.Binary.{magic}
use Rattle.journal_reading.specs.Faults.{IsOfLines}
use Rattle.journal_reading.specs.Streams.{behind}
use Rattle.journal_reading.specs.Inner.Readers.{parts}

-- one byte further
behind_same : (m : ℕ) (ms bytes : List ℕ) → behind (m ∷ ms) (m ∷ bytes) ≡ behind ms bytes
behind_same m ms bytes = grind (arith, nat_tests)

behind_other : (m b : ℕ) (ms bytes : List ℕ) → b ≢ m → behind (m ∷ ms) (b ∷ bytes) ≡ None
behind_other m b ms bytes n = grind (arith, nat_tests)

parts_same : (m : ℕ) (ms bytes : List ℕ) → parts (m ∷ ms) (m ∷ bytes) ≡ parts ms bytes
parts_same m ms bytes = grind (arith, nat_tests)

parts_other : (m b : ℕ) (ms bytes : List ℕ) → b ≢ m → parts (m ∷ ms) (b ∷ bytes) ≡ true
parts_other m b ms bytes n = grind (arith, nat_tests)

abbrev Same : ℕ → ℕ → Type 0
Same b m = ((eqb b m ≡ true) × (b ≡ m)) ⊎ ((eqb b m ≡ false) × (b ≢ m))

some_is : (o : Option (List ℕ)) (body : List ℕ) → o ≡ None → o ≡ Some body → ⊥
some_is o body e f = cc

-- what begins with the bytes has the rest behind them, and nothing else has
pub behind_append : (m body : List ℕ) → behind m (m ++ body) ≡ Some body
behind_append [] body = refl
behind_append (m ∷ ms) body = behind_same m ms (ms ++ body) ∙ behind_append ms body

is_case : (m b : ℕ) (ms bytes body : List ℕ) → (behind ms bytes ≡ Some body → bytes ≡ ms ++ body) → Same b m → behind (m ∷ ms) (b ∷ bytes) ≡ Some body → b ∷ bytes ≡ (m ∷ ms) ++ body
is_case m b ms bytes body step (inl s) h =
    let more : bytes ≡ ms ++ body = step (sym (behind_same m ms bytes) ∙ subst (λ (x : ℕ). behind (m ∷ ms) (x ∷ bytes) ≡ Some body) s.1 h) in
    ap (λ (x : ℕ). x ∷ bytes) s.1 ∙ ap (λ (xs : List ℕ). m ∷ xs) more
is_case m b ms bytes body step (inr s) h = absurd (some_is (behind (m ∷ ms) (b ∷ bytes)) body (behind_other m b ms bytes s.1) h)

some_body : (bytes body : List ℕ) → Some bytes ≡ Some body → bytes ≡ body
some_body bytes body e = cc

pub behind_is : (m bytes body : List ℕ) → behind m bytes ≡ Some body → bytes ≡ m ++ body
behind_is [] bytes body h = some_body bytes body h
behind_is (m ∷ ms) [] body h = cc
behind_is (m ∷ ms) (b ∷ bytes) body h = is_case m b ms bytes body (behind_is ms bytes body) (eqb_tells b m) h

pub behind_none : (m bytes : List ℕ) → behind m bytes ≡ None → (body : List ℕ) → bytes ≡ m ++ body → ⊥
behind_none m bytes n body e = some_is (behind m bytes) body n (ap (behind m) e ∙ behind_append m body)

-- the case of the eight bytes
pub of_body : (text body : List ℕ) → text ≡ magic ++ body → behind magic text ≡ Some body
of_body text body e = ap (behind magic) e ∙ behind_append magic body

-- bytes that part from them go on so
parts_case : (m b : ℕ) (ms bytes more : List ℕ) → (parts ms bytes ≡ true → parts ms (bytes ++ more) ≡ true) → Same b m → parts (m ∷ ms) (b ∷ bytes) ≡ true → parts (m ∷ ms) (b ∷ bytes ++ more) ≡ true
parts_case m b ms bytes more step (inl s) h =
    ap (λ (x : ℕ). parts (m ∷ ms) (x ∷ bytes ++ more)) s.1 ∙ parts_same m ms (bytes ++ more)
    ∙ step (sym (parts_same m ms bytes) ∙ subst (λ (x : ℕ). parts (m ∷ ms) (x ∷ bytes) ≡ true) s.1 h)
parts_case m b ms bytes more step (inr s) h = parts_other m b ms (bytes ++ more) s.1

pub parts_more : (m bytes more : List ℕ) → parts m bytes ≡ true → parts m (bytes ++ more) ≡ true
parts_more [] bytes more h = cc
parts_more (m ∷ ms) [] more h = cc
parts_more (m ∷ ms) (b ∷ bytes) more h = parts_case m b ms bytes more (parts_more ms bytes more) (eqb_tells b m) h

none_case : (m b : ℕ) (ms bytes : List ℕ) → (parts ms bytes ≡ true → behind ms bytes ≡ None) → Same b m → parts (m ∷ ms) (b ∷ bytes) ≡ true → behind (m ∷ ms) (b ∷ bytes) ≡ None
none_case m b ms bytes step (inl s) h =
    ap (λ (x : ℕ). behind (m ∷ ms) (x ∷ bytes)) s.1 ∙ behind_same m ms bytes
    ∙ step (sym (parts_same m ms bytes) ∙ subst (λ (x : ℕ). parts (m ∷ ms) (x ∷ bytes) ≡ true) s.1 h)
none_case m b ms bytes step (inr s) h = behind_other m b ms bytes s.1

pub parts_none : (m bytes : List ℕ) → parts m bytes ≡ true → behind m bytes ≡ None
parts_none [] bytes h = cc
parts_none (m ∷ ms) [] h = cc
parts_none (m ∷ ms) (b ∷ bytes) h = none_case m b ms bytes (parts_none ms bytes) (eqb_tells b m) h

-- bytes that don't part from them begin with them, or are too few
true_false : (b : Bool) → b ≡ true → b ≡ false → ⊥
true_false b e f = cc

whole_case : (m b : ℕ) (ms bytes : List ℕ) → (parts ms bytes ≡ false → length ms ≤ length bytes → bytes ≡ ms ++ drop (length ms) bytes) → Same b m → parts (m ∷ ms) (b ∷ bytes) ≡ false → suc (length ms) ≤ suc (length bytes)
    → b ∷ bytes ≡ (m ∷ ms) ++ drop (length ms) bytes
whole_case m b ms bytes step (inl s) h l =
    let more : bytes ≡ ms ++ drop (length ms) bytes = step (sym (parts_same m ms bytes) ∙ subst (λ (x : ℕ). parts (m ∷ ms) (x ∷ bytes) ≡ false) s.1 h) (omega (arith, l)) in
    ap (λ (x : ℕ). x ∷ bytes) s.1 ∙ ap (λ (xs : List ℕ). m ∷ xs) more
whole_case m b ms bytes step (inr s) h l = absurd (true_false (parts (m ∷ ms) (b ∷ bytes)) (parts_other m b ms bytes s.1) h)

pub unparted : (m bytes : List ℕ) → parts m bytes ≡ false → length m ≤ length bytes → bytes ≡ m ++ drop (length m) bytes
unparted [] bytes h l = refl
unparted (m ∷ ms) [] h l = absurd (omega (arith, l))
unparted (m ∷ ms) (b ∷ bytes) h l = whole_case m b ms bytes (unparted ms bytes) (eqb_tells b m) h l

pub few_none : (m bytes : List ℕ) → length bytes < length m → behind m bytes ≡ None
few_none [] bytes l = absurd (omega (arith, l))
few_none (m ∷ ms) [] l = refl
few_none (m ∷ ms) (b ∷ bytes) l = few_case m b ms bytes (few_none ms bytes (omega (arith, l))) (eqb_tells b m) where
  few_case : (m b : ℕ) (ms bytes : List ℕ) → behind ms bytes ≡ None → Same b m → behind (m ∷ ms) (b ∷ bytes) ≡ None
  few_case m b ms bytes step (inl s) = ap (λ (x : ℕ). behind (m ∷ ms) (x ∷ bytes)) s.1 ∙ behind_same m ms bytes ∙ step
  few_case m b ms bytes step (inr s) = behind_other m b ms bytes s.1

-- too few bytes that don't part from them have no LF
no_case : (c m b : ℕ) (ms bytes : List ℕ) → m ≢ c → (parts ms bytes ≡ false → HasNo c bytes) → Same b m → parts (m ∷ ms) (b ∷ bytes) ≡ false → HasNo c (b ∷ bytes)
no_case c m b ms bytes n step (inl s) h = (subst (λ (x : ℕ). x ≢ c) (sym s.1) n, step (sym (parts_same m ms bytes) ∙ subst (λ (x : ℕ). parts (m ∷ ms) (x ∷ bytes) ≡ false) s.1 h))
no_case c m b ms bytes n step (inr s) h = absurd (true_false (parts (m ∷ ms) (b ∷ bytes)) (parts_other m b ms bytes s.1) h)

no_byte : (c : ℕ) (m bytes : List ℕ) (last : ℕ) → HasNo c m → parts (m ++ last ∷ []) bytes ≡ false → length bytes ≤ length m → HasNo c bytes
no_byte c m [] last n h l = tt
no_byte c [] (b ∷ bytes) last n h l = absurd (omega (arith, l))
no_byte c (m ∷ ms) (b ∷ bytes) last n h l = no_case c m b (ms ++ last ∷ []) bytes n.0 (λ k. no_byte c ms bytes last n.1 k (omega (arith, l))) (eqb_tells b m) h

abbrev first_seven : List ℕ
first_seven = 114 ∷ 97 ∷ 109 ∷ 98 ∷ 111 ∷ 32 ∷ 50 ∷ []

seven_plain : HasNo 10 first_seven
seven_plain = (λ e. cc, (λ e. cc, (λ e. cc, (λ e. cc, (λ e. cc, (λ e. cc, (λ e. cc, tt)))))))

pub no_line : (bytes : List ℕ) → parts magic bytes ≡ false → length bytes < 8 → HasNo 10 bytes
no_line bytes h l = no_byte 10 first_seven bytes 10 seven_plain h (omega (arith, l))

-- the first LF of a text
lf_first : (c : ℕ) (xs ys us vs : List ℕ) → HasNo c xs → HasNo c ys → xs ++ c ∷ us ≡ ys ++ c ∷ vs → (xs ≡ ys) × (us ≡ vs)
lf_first c [] [] us vs n m e = (refl, cc)
lf_first c [] (y ∷ ys) us vs n m e = absurd (m.0 (cc))
lf_first c (x ∷ xs) [] us vs n m e = absurd (n.0 (cc))
lf_first c (x ∷ xs) (y ∷ ys) us vs n m e =
    let same : x ≡ y = cc in
    let rest : xs ++ c ∷ us ≡ ys ++ c ∷ vs = cc in
    let r = lf_first c xs ys us vs n.1 m.1 rest in
    (ap (λ (z : ℕ). z ∷ xs) same ∙ ap (λ (zs : List ℕ). y ∷ zs) r.0, r.1)

-- a text with a whole first line that isn't of version 2 is of lines, whatever follows
pub line_tells : (bytes more line : List ℕ) → HasLine bytes line → behind magic bytes ≡ None → IsOfLines (bytes ++ more)
line_tells bytes more line has none body e =
    let whole : line ++ 10 ∷ (has.rest ++ more) ≡ first_seven ++ 10 ∷ body = sym (append_assoc line (10 ∷ has.rest) more) ∙ ap (λ (xs : List ℕ). xs ++ more) (sym has.is) ∙ e in
    let first : (line ≡ first_seven) × (has.rest ++ more ≡ body) = lf_first 10 line first_seven (has.rest ++ more) body has.whole seven_plain whole in
    behind_none magic bytes none has.rest (has.is ∙ ap (λ (xs : List ℕ). xs ++ 10 ∷ has.rest) first.0)

-- the seventh byte
abbrev seventh : List ℕ → ℕ
seventh (a ∷ b ∷ c ∷ d ∷ e ∷ f ∷ g ∷ xs) = g
seventh _ = 0

-- a text that begins with a header of version 1
pub header_tells : (b : ℕ) (es : List Entry) (rest : List ℕ) → IsOfLines (entries_text (entry.Header b ∷ es) ++ rest)
header_tells b es rest body e = let f : 49 ≡ 50 = ap seventh e in omega (arith, f)

-- a byte further, as a loop goes
drop_one : (k : ℕ) (xs : List ℕ) → k < length xs → drop k xs ≡ slice_index xs k ∷ drop (suc k) xs
drop_one zero [] l = absurd (omega (arith, l))
drop_one zero (x ∷ xs) l = refl
drop_one (suc k) [] l = absurd (omega (arith, l))
drop_one (suc k) (x ∷ xs) l = drop_one k xs (omega (arith, l))

pub parts_step : (k : ℕ) (m bytes : List ℕ) → k < length m → k < length bytes → slice_index bytes k ≡ slice_index m k → parts (drop k m) (drop k bytes) ≡ parts (drop (k + 1) m) (drop (k + 1) bytes)
parts_step k m bytes l n e =
    let next : suc k ≡ k + 1 = omega arith in
    ap (λ (xs : List ℕ). parts xs (drop k bytes)) (drop_one k m l) ∙ ap (λ (xs : List ℕ). parts (slice_index m k ∷ drop (suc k) m) xs) (drop_one k bytes n ∙ ap (λ (x : ℕ). x ∷ drop (suc k) bytes) e)
    ∙ parts_same (slice_index m k) (drop (suc k) m) (drop (suc k) bytes) ∙ ap (λ (i : ℕ). parts (drop i m) (drop i bytes)) next

pub parts_here : (k : ℕ) (m bytes : List ℕ) → k < length m → k < length bytes → slice_index bytes k ≢ slice_index m k → parts (drop k m) (drop k bytes) ≡ true
parts_here k m bytes l n e =
    ap (λ (xs : List ℕ). parts xs (drop k bytes)) (drop_one k m l) ∙ ap (λ (xs : List ℕ). parts (slice_index m k ∷ drop (suc k) m) xs) (drop_one k bytes n)
    ∙ parts_other (slice_index m k) (slice_index bytes k) (drop (suc k) m) (drop (suc k) bytes) e

none_left : (k : ℕ) (xs : List ℕ) → length xs ≤ k → drop k xs ≡ []
none_left k xs l = drop_all k xs l

no_bytes : (m : List ℕ) → parts m [] ≡ false
no_bytes [] = refl
no_bytes (m ∷ ms) = refl

pub parts_end : (k : ℕ) (m bytes : List ℕ) → (length m ≤ k) ⊎ (length bytes ≤ k) → parts (drop k m) (drop k bytes) ≡ false
parts_end k m bytes (inl l) = ap (λ (xs : List ℕ). parts xs (drop k bytes)) (none_left k m l)
parts_end k m bytes (inr l) = ap (parts (drop k m)) (none_left k bytes l) ∙ no_bytes (drop k m)
