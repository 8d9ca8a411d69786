-- The names of a flat model are tokens.
use Rattle.std.proofs.Common.{◌≡◌, ◌≤◌, ◌<◌, ◌+◌, ◌%◌, ◌^◌, ◌==◌, ℕ, zero, suc, Bool, true, false, not, [], ◌∷◌, ◌++◌, Option, None, Some, inl, inr, refl, sym, ap, ◌∙◌, arith}
use Rattle.std.specs.Fmt.{decimal}
use Rattle.std.specs.List.{list_all}
use Rattle.std.specs.Option.{option_map}
use Rattle.std.proofs.lemmas.Fmt.{decimal_by_steps}
use Rattle.std.proofs.lemmas.Bool.{lt-ltb, ne_eqb}
use Rattle.std.proofs.lemmas.Bool.Decides.{eqb_tells}
use Rattle.rm_base.specs.Words.{Word, is_word_byte}
use Rattle.rm_base.proofs.Public.{and_first, and_second, both_and, list_all-join}
use Rattle.rm_model.specs.WellFormed.{ends_in_backslash, is_token}
use Rattle.blif_flatten.specs.Calls.{sides_at}
use Rattle.blif_flatten.specs.LineFaults.{is_empty}
use Rattle.blif_flatten.specs.Instances.{Calls, Done, Then, instance_count, lead, name_in}
use Rattle.blif_flatten.proofs.FormedCounts.{all-times, times-all}
use Rattle.blif_flatten.proofs.FormedTree.{own_names}
use Rattle.blif_flatten.proofs.FormedHeld.{AreHeld}

-- A BYTE OR A WORD BEFORE A TOKEN
token-cons : (b : ℕ) (w : Word) → is_word_byte b ≡ true → is_token w ≡ true → is_token (b ∷ w) ≡ true
token-cons b [] h k = absurd cc
token-cons b (c ∷ cs) h k =
    both_and (list_all is_word_byte (b ∷ c ∷ cs)) (not (ends_in_backslash (c ∷ cs)))
    (both_and (is_word_byte b) (list_all is_word_byte (c ∷ cs)) h (and_first (list_all is_word_byte (c ∷ cs)) (not (ends_in_backslash (c ∷ cs))) k))
    (and_second (list_all is_word_byte (c ∷ cs)) (not (ends_in_backslash (c ∷ cs))) k)

token-after : (v w : Word) → list_all is_word_byte v ≡ true → is_token w ≡ true → is_token (v ++ w) ≡ true
token-after [] w h k = k
token-after (b ∷ bs) w h k = token-cons b (bs ++ w) (and_first (is_word_byte b) (list_all is_word_byte bs) h) (token-after bs w (and_second (is_word_byte b) (list_all is_word_byte bs) h) k)

-- a token's last part is one, where it isn't empty
pub token-last : (v w : Word) → is_token (v ++ w) ≡ true → is_empty w ≡ false → is_token w ≡ true
token-last [] w h some = h
token-last (b ∷ bs) w h some = token-last bs w (rest (bs ++ w) h (full bs w some)) some
  where
    full : (v w : Word) → is_empty w ≡ false → is_empty (v ++ w) ≡ false
    full [] w e = e
    full (c ∷ cs) w e = refl

    rest : (u : Word) → is_token (b ∷ u) ≡ true → is_empty u ≡ false → is_token u ≡ true
    rest [] e f = absurd cc
    rest (c ∷ cs) e f =
        both_and (list_all is_word_byte (c ∷ cs)) (not (ends_in_backslash (c ∷ cs)))
        (and_second (is_word_byte b) (list_all is_word_byte (c ∷ cs)) (and_first (list_all is_word_byte (b ∷ c ∷ cs)) (not (ends_in_backslash (c ∷ cs))) e))
        (and_second (list_all is_word_byte (b ∷ c ∷ cs)) (not (ends_in_backslash (c ∷ cs))) e)

-- RENAMED NAMES
digit : (d : ℕ) → d < 10 → is_word_byte (48 + d) ≡ true
digit d h = rw (lt-ltb 32 (48 + d) (omega arith), ne_eqb (48 + d) 35 (λ (e : 48 + d ≡ 35). let f : ⊥ = omega arith in f), ne_eqb (48 + d) 127 (λ (e : 48 + d ≡ 127). let f : ⊥ = omega arith in f)) refl

AllBytes : Word → Type 0
AllBytes xs = list_all is_word_byte xs ≡ true

one-digit : (n : ℕ) → n < 10 → AllBytes ((48 + n) ∷ [])
unfolding AllBytes
one-digit n h = both_and (is_word_byte (48 + n)) true (digit n h) refl

more-digits : (n : ℕ) (ds : Word) → 10 ≤ n → AllBytes ds → AllBytes (ds ++ ((48 + n % 10) ∷ []))
unfolding AllBytes
more-digits n ds h k = list_all-join is_word_byte ds ((48 + n % 10) ∷ []) k (both_and (is_word_byte (48 + n % 10)) true (digit (n % 10) (omega arith)) refl)

bytes-decimal : (n : ℕ) → n < 2 ^ 64 → AllBytes (decimal n)
bytes-decimal = decimal_by_steps (λ n ds. AllBytes ds) one-digit more-digits

number-token : (n : ℕ) (w : Word) → n < 2 ^ 64 → is_token w ≡ true → is_token (decimal n ++ 95 ∷ w) ≡ true
unfolding AllBytes
number-token n w small h = token-after (decimal n) (95 ∷ w) (bytes-decimal n small) (token-cons 95 w refl h)

lead-bytes : (t : ℕ) → t < 2 ^ 64 → list_all is_word_byte (lead t) ≡ true
unfolding AllBytes
lead-bytes t small = both_and (is_word_byte 115) (list_all is_word_byte (decimal t ++ 95 ∷ [])) refl (list_all-join is_word_byte (decimal t) (95 ∷ []) (bytes-decimal t small) refl)

pub name-token : (t i : ℕ) (x : Word) → t < 2 ^ 64 → i < 2 ^ 64 → is_token x ≡ true → is_token (name_in (lead t) i x) ≡ true
name-token t zero x few small h = h
name-token t (suc i) x few small h = token-after (lead t) (decimal (suc i) ++ 95 ∷ x) (lead-bytes t few) (number-token (suc i) x small h)

-- the names that the instances drive are tokens in their modules
abbrev pub AreOwnTokens : Calls → Type 0
AreOwnTokens Done = Unit {0}
AreOwnTokens (Then l m inside behind) = (list_all is_token (own_names l m inside) ≡ true) × (AreOwnTokens inside × AreOwnTokens behind)

pub tokens-held : (t i : ℕ) (calls : Calls) → t < 2 ^ 64 → i + instance_count calls < 2 ^ 64 → AreOwnTokens calls → AreHeld is_token (lead t) i calls
tokens-held t i Done few small h = tt
tokens-held t i (Then l m inside behind) few small h =
    let n : ℕ = instance_count inside in
    let k : ℕ = instance_count behind in
    let room : i + (1 + (n + k)) < 2 ^ 64 = small in (
      all-times (λ y. is_token (name_in (lead t) i y)) (own_names l m inside) (λ y some. name-token t i y few (omega (arith, room)) (times-all is_token (own_names l m inside) y h.0 some)),
      (
        tokens-held t (i + 1) inside few (omega (arith, room)) h.1.0,
        tokens-held t (i + 1 + n) behind few (omega (arith, room)) h.1.1,
      ),
    )

-- THE SIDES OF A PIN
pub sides-joined : (b : ℕ) (w : Word) (p : Word × Word) → sides_at b w ≡ Some p → w ≡ p.0 ++ b ∷ p.1
sides-joined b [] p e = absurd cc
sides-joined b (c ∷ cs) p e = at (c == b) refl e (sides_at b cs) refl (sides-joined b cs)
  where
    behind : (o : Option (Word × Word)) → sides_at b cs ≡ o → option_map (λ (q : Word × Word). (c ∷ q.0, q.1)) o ≡ Some p → ((q : Word × Word) → sides_at b cs ≡ Some q → cs ≡ q.0 ++ b ∷ q.1) → c ∷ cs ≡ p.0 ++ b ∷ p.1
    behind None is f rest = absurd cc
    behind (Some q) is f rest =
        let same : (c ∷ q.0, q.1) ≡ p = cc in
        ap (λ (u : Word). c ∷ u) (rest q is) ∙ ap (λ (r : Word × Word). r.0 ++ b ∷ r.1) same

    at : (t : Bool) → (c == b) ≡ t → sides_at b (c ∷ cs) ≡ Some p → (o : Option (Word × Word)) → sides_at b cs ≡ o → ((q : Word × Word) → sides_at b cs ≡ Some q → cs ≡ q.0 ++ b ∷ q.1) → c ∷ cs ≡ p.0 ++ b ∷ p.1
    at true same f o is rest =
        let now : Some ([], cs) ≡ Some p = rw same at f in
        let both : ([], cs) ≡ p = cc in
        let equal : c ≡ b = same-byte (c == b) same in
        ap (λ (d : ℕ). d ∷ cs) equal ∙ ap (λ (r : Word × Word). r.0 ++ b ∷ r.1) both
      where
        same-byte : (t : Bool) → (c == b) ≡ true → c ≡ b
        same-byte t e = elim (eqb_tells c b) [ inl same ↦ same.1 | inr other ↦ absurd (let bad = other.0 in cc) ]
    at false same f o is rest = behind o is (ap (λ (q : Option (Word × Word)). option_map (λ (q : Word × Word). (c ∷ q.0, q.1)) q) (sym is) ∙ (rw same at f)) rest
