-- Inner names are tokens: they end as the names of the part end.
use Rattle.std.proofs.Common.{◌≡◌, ◌≤◌, ◌<◌, ◌+◌, ◌%◌, ◌^◌, ℕ, Bool, true, not, [], ◌∷◌, ◌++◌, length, refl, arith}
use Rattle.std.specs.Fmt.{decimal}
use Rattle.std.specs.List.{list_all}
use Rattle.std.proofs.lemmas.Fmt.{decimal_by_steps}
use Rattle.std.proofs.lemmas.Bool.{lt-ltb, ne_eqb}
use Rattle.rm_base.specs.Words.{Word, is_word_byte}
use Rattle.rm_base.proofs.Public.{and_first, and_second, both_and, list_all-join}
use Rattle.rm_model.specs.WellFormed.{ends_in_backslash, is_token}
use Rattle.rm_model.specs.declared.parts.Model.{Model}
use Rattle.sewing.specs.Names.{edge_names, inner_name, numbered_lead, free_number, sewn_name}
use Rattle.sewing.specs.Laws.{LeadsAreLeast}
use Rattle.rm_model.specs.Value.{is_among}
use Rattle.std.specs.Prelude.{if◌then◌else◌}
use Rattle.sewing.proofs.Leads.{none-before, number-is-free, number-le}
use Rattle.std.proofs.Common.{false}

token-cons : (b : ℕ) (w : Word) → is_word_byte b ≡ true → is_token w ≡ true → is_token (b ∷ w) ≡ true
token-cons b [] h k = absurd cc
token-cons b (c ∷ cs) h k =
    both_and (list_all is_word_byte (b ∷ c ∷ cs)) (not (ends_in_backslash (c ∷ cs)))
    (both_and (is_word_byte b) (list_all is_word_byte (c ∷ cs)) h (and_first (list_all is_word_byte (c ∷ cs)) (not (ends_in_backslash (c ∷ cs))) k))
    (and_second (list_all is_word_byte (c ∷ cs)) (not (ends_in_backslash (c ∷ cs))) k)

token-after : (v w : Word) → list_all is_word_byte v ≡ true → is_token w ≡ true → is_token (v ++ w) ≡ true
token-after [] w h k = k
token-after (b ∷ bs) w h k = token-cons b (bs ++ w) (and_first (is_word_byte b) (list_all is_word_byte bs) h) (token-after bs w (and_second (is_word_byte b) (list_all is_word_byte bs) h) k)

digit : (d : ℕ) → d < 10 → is_word_byte (48 + d) ≡ true
digit d h = rw (lt-ltb 32 (48 + d) (omega arith), ne_eqb (48 + d) 35 (λ (e : 48 + d ≡ 35). let f : ⊥ = omega arith in f), ne_eqb (48 + d) 127 (λ (e : 48 + d ≡ 127). let f : ⊥ = omega arith in f)) refl

AllBytes : Word → Type 0
AllBytes xs = list_all is_word_byte xs ≡ true

one-digit : (n : ℕ) → n < 10 → AllBytes ((48 + n) ∷ [])
unfolding AllBytes
one-digit n h = both_and (is_word_byte (48 + n)) true (digit n h) refl

more-digits : (n : ℕ) (ds : Word) → 10 ≤ n → AllBytes ds → AllBytes (ds ++ ((48 + n % 10) ∷ []))
unfolding AllBytes
more-digits n ds h k = list_all-join is_word_byte ds ((48 + n % 10) ∷ []) k (both_and (is_word_byte (48 + n % 10)) true (digit (n % 10) (omega arith)) refl)

bytes-decimal : (n : ℕ) → n < 2 ^ 64 → AllBytes (decimal n)
bytes-decimal = decimal_by_steps (λ n ds. AllBytes ds) one-digit more-digits

number-token : (n : ℕ) (w : Word) → n < 2 ^ 64 → is_token w ≡ true → is_token (decimal n ++ 95 ∷ w) ≡ true
unfolding AllBytes
number-token n w small h = token-after (decimal n) (95 ∷ w) (bytes-decimal n small) (token-cons 95 w refl h)

pub inner-token : (lead : Word) (k : ℕ) (x : Word) → list_all is_word_byte lead ≡ true → k < 2 ^ 64 → is_token x ≡ true → is_token (inner_name lead k x) ≡ true
inner-token lead k x bytes small h = token-after lead (decimal k ++ 95 ∷ x) bytes (number-token k x small h)

pub sewn-token : (lead : Word) (k : ℕ) (p : Model) (x : Word) → list_all is_word_byte lead ≡ true → k < 2 ^ 64 → is_token x ≡ true → is_token (sewn_name lead k p x) ≡ true
sewn-token lead k p x bytes small h = go (is_among (edge_names p) x)
  where
    go : (b : Bool) → is_token (if b then x else inner_name lead k x) ≡ true
    go true = h
    go false = inner-token lead k x bytes small h

lead-bytes : (t : ℕ) → t < 2 ^ 64 → list_all is_word_byte (numbered_lead t) ≡ true
unfolding AllBytes
lead-bytes t small = both_and (is_word_byte 119) (list_all is_word_byte (decimal t ++ 95 ∷ [])) refl (list_all-join is_word_byte (decimal t) (95 ∷ []) (bytes-decimal t small) refl)

pub leads-are-least : LeadsAreLeast
leads-are-least names few =
    let le : free_number names ≤ 0 + length names = number-le (length names) 0 names in
    record {
      is_lead = record { free = number-is-free names few; bytes = lead-bytes (free_number names) (omega (arith, le, few)) };
      least = λ u lt. none-before (length names) names 0 u (omega arith) lt;
    }
