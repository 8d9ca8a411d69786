-- The logical lines of written lines are those lines, and have no layout fault.
use Rattle.std.proofs.Common.{◌≡◌, ◌==◌, ◌+◌, ℕ, Bool, true, false, not, List, [], ◌∷◌, ◌++◌, map, filter, refl, ap, sym, subst, ◌∙◌, append-nil, arith}
use Rattle.std.specs.Prelude.{◌&&◌, ◌||◌, nat_lt, if◌then◌else◌, None, Some}
use Rattle.std.specs.List.{list_all}
use Rattle.std.proofs.lemmas.Bool.Decides.{nat_tests}
use Rattle.std.proofs.lemmas.Bool.{and_parts}
use Rattle.rm_base.specs.declared.numbers.Place.{Place}
use Rattle.rm_model.specs.WellFormed.{ends_in_backslash, is_token}
use Rattle.blif_lines.specs.Layout.{Mark, Spot, Logical, behind, marked, onto_first, physical_lines, without_comment, is_blank, joint, runs, spots, is_control, BadByteAt, first_bad, single, logical_lines, with_line, layout_from, layout, words_in, has_words, lines_of}
use Rattle.blif_format.specs.Text.{Line, spelled, text_of_lines}
use Rattle.blif_format.specs.Laws.{AreFlawless}
use Rattle.rm_base.proofs.Public.{false_from_not}
use Rattle.rm_base.specs.Words.{Word, is_word_byte}

pub and_true : {a b : Bool} → a ≡ true → b ≡ true → a && b ≡ true
and_true p q = rw (p, q) refl

or_false : {a b : Bool} → a ≡ false → b ≡ false → a || b ≡ false
or_false p q = rw (p, q) refl

pub and_false : (a : Bool) → a && false ≡ false
and_false true = refl
and_false false = refl

pub if_false : {A : Type 0} {test : Bool} (x y : A) → test ≡ false → (if test then x else y) ≡ y
if_false x y e = rw e refl

-- the offset and the place behind these bytes
start_behind : ℕ → List ℕ → ℕ
start_behind start [] = start
start_behind start (b ∷ bs) = start_behind (start + 1) bs

place_behind : Place → List ℕ → Place
place_behind place [] = place
place_behind place (b ∷ bs) = place_behind (behind b place) bs

abbrev mark : ℕ → Place → ℕ → Mark
mark s p b = record { byte = b; start = s; place = p }

-- no byte passes the test
abbrev pub NoneOf : (ℕ → Bool) → List ℕ → Type 0
NoneOf test [] = Unit {0}
NoneOf test (b ∷ bs) = (test b ≡ false) × NoneOf test bs

NoneOf-append : (test : ℕ → Bool) (xs ys : List ℕ) → NoneOf test xs → NoneOf test ys → NoneOf test (xs ++ ys)
NoneOf-append test [] ys h k = k
NoneOf-append test (x ∷ xs) ys h k = (h.0, NoneOf-append test xs ys h.1 k)

abbrev is_space : ℕ → Bool
is_space b = (b == 32) || ((b == 9) || (b == 13))

-- WORDS

-- what the bytes of a word are
record IsWordByte (b : ℕ) : Type 0 where
  space : is_space b ≡ false
  line_end : (b == 10) ≡ false
  hash : (b == 35) ≡ false
  control : (nat_lt b 32 || (b == 127)) ≡ false

word_byte : (b : ℕ) → is_word_byte b ≡ true → IsWordByte b
word_byte b e = record {
  space = grind (arith, nat_tests);
  line_end = grind (arith, nat_tests);
  hash = grind (arith, nat_tests);
  control = grind (arith, nat_tests);
}

abbrev AreWordBytes : List ℕ → Type 0
AreWordBytes [] = Unit {0}
AreWordBytes (b ∷ bs) = IsWordByte b × AreWordBytes bs

word_bytes : (w : Word) → list_all is_word_byte w ≡ true → AreWordBytes w
word_bytes [] e = tt
word_bytes (b ∷ bs) e = let h = and_parts (is_word_byte b) (list_all is_word_byte bs) e in (word_byte b h.0, word_bytes bs h.1)

no_space : (w : Word) → AreWordBytes w → NoneOf is_space w
no_space [] h = tt
no_space (b ∷ bs) h = (h.0.space, no_space bs h.1)

no_line_end : (w : Word) → AreWordBytes w → NoneOf (λ b. b == 10) w
no_line_end [] h = tt
no_line_end (b ∷ bs) h = (h.0.line_end, no_line_end bs h.1)

no_hash : (w : Word) → AreWordBytes w → NoneOf (λ b. b == 35) w
no_hash [] h = tt
no_hash (b ∷ bs) h = (h.0.hash, no_hash bs h.1)

-- the last byte is neither blank nor a backslash
abbrev ends_well : List ℕ → Bool
ends_well [] = false
ends_well (b ∷ []) = not (is_space b) && not (b == 92)
ends_well (b ∷ c ∷ cs) = ends_well (c ∷ cs)

ends-cons : (b : ℕ) (x : List ℕ) → ends_well x ≡ true → ends_well (b ∷ x) ≡ true
ends-cons b [] e = absurd cc
ends-cons b (c ∷ cs) e = e

ends-append : (a x : List ℕ) → ends_well x ≡ true → ends_well (a ++ x) ≡ true
ends-append [] x e = e
ends-append (b ∷ bs) x e = ends-cons b (bs ++ x) (ends-append bs x e)

word_ends : (b : ℕ) (bs : List ℕ) → AreWordBytes (b ∷ bs) → ends_in_backslash (b ∷ bs) ≡ false → ends_well (b ∷ bs) ≡ true
word_ends b [] h e = rw (h.0.space, e) refl
word_ends b (c ∷ cs) h e = word_ends c cs h.1 e

-- what a token is
record IsToken (w : Word) : Type 0 where
  bytes : AreWordBytes w
  ends : ends_well w ≡ true
  open_end : ends_in_backslash w ≡ false

token_parts : (w : Word) → is_token w ≡ true → IsToken w
token_parts [] e = absurd cc
token_parts (b ∷ bs) e =
    let h = and_parts (list_all is_word_byte (b ∷ bs)) (not (ends_in_backslash (b ∷ bs))) e in
    let bytes = word_bytes (b ∷ bs) h.0 in
    record { bytes = bytes; ends = word_ends b bs bytes (false_from_not _ h.1); open_end = false_from_not _ h.1 }

abbrev AreTokens : Line → Type 0
AreTokens [] = Unit {0}
AreTokens (w ∷ ws) = IsToken w × AreTokens ws

tokens_parts : (l : Line) → list_all is_token l ≡ true → AreTokens l
tokens_parts [] e = tt
tokens_parts (w ∷ ws) e = let h = and_parts (is_token w) (list_all is_token ws) e in (token_parts w h.0, tokens_parts ws h.1)

none_in_spelled : (test : ℕ → Bool) → ((w : Word) → AreWordBytes w → NoneOf test w) → test 32 ≡ false → (l : Line) → AreTokens l → NoneOf test (spelled l)
none_in_spelled test each blank [] h = tt
none_in_spelled test each blank (w ∷ []) h = each w h.0.bytes
none_in_spelled test each blank (w ∷ v ∷ ws) h = NoneOf-append test w _ (each w h.0.bytes) (blank, none_in_spelled test each blank (v ∷ ws) h.1)

spelled_ends : (w : Word) (ws : Line) → AreTokens (w ∷ ws) → ends_well (spelled (w ∷ ws)) ≡ true
spelled_ends w [] h = h.0.ends
spelled_ends w (v ∷ ws) h = ends-append w _ (ends-cons 32 (spelled (v ∷ ws)) (spelled_ends v ws h.1))

-- MARKED BYTES

bytes-marked : (s : ℕ) (p : Place) (a : List ℕ) → map (λ (m : Mark). m.byte) (marked s p a) ≡ a
bytes-marked s p [] = refl
bytes-marked s p (b ∷ bs) = ap (λ xs. b ∷ xs) (bytes-marked (s + 1) (behind b p) bs)

-- up to the line's end
physical-front : (s : ℕ) (p : Place) (a rest : List ℕ) → NoneOf (λ b. b == 10) a → physical_lines (marked s p (a ++ 10 ∷ rest)) ≡ marked s p a ∷ physical_lines (marked (start_behind s a + 1) (behind 10 (place_behind p a)) rest)
unfolding start_behind place_behind
physical-front s p [] rest h = refl
physical-front s p (b ∷ bs) rest h =
    let more = marked (s + 1) (behind b p) (bs ++ 10 ∷ rest) in
    if_false ([] ∷ physical_lines more) (onto_first (mark s p b) (physical_lines more)) h.0
    ∙ ap (onto_first (mark s p b)) (physical-front (s + 1) (behind b p) bs rest h.1)

comment-whole : (s : ℕ) (p : Place) (a : List ℕ) → NoneOf (λ b. b == 35) a → without_comment (marked s p a) ≡ marked s p a
comment-whole s p [] h = refl
comment-whole s p (b ∷ bs) h =
    let more = marked (s + 1) (behind b p) bs in
    if_false [] (mark s p b ∷ without_comment more) h.0 ∙ ap (λ ms. mark s p b ∷ ms) (comment-whole (s + 1) (behind b p) bs h.1)

is_dark : (s : ℕ) (p : Place) (a : List ℕ) → ends_well a ≡ true → list_all is_blank (marked s p a) ≡ false
is_dark s p [] e = absurd cc
is_dark s p (b ∷ []) e =
    let h = and_parts (not (is_space b)) (not (b == 92)) e in
    rw (false_from_not (is_space b) h.0) refl
is_dark s p (b ∷ c ∷ cs) e = rw (is_dark (s + 1) (behind b p) (c ∷ cs) e) (and_false (is_space b))

no_joint : (s : ℕ) (p : Place) (a : List ℕ) → ends_well a ≡ true → joint (marked s p a) ≡ None
no_joint s p [] e = absurd cc
no_joint s p (b ∷ []) e =
    let h = and_parts (not (is_space b)) (not (b == 92)) e in
    if_false (Some (mark s p b)) None (false_from_not (b == 92) h.1)
no_joint s p (b ∷ c ∷ cs) e =
    let more = marked (s + 1) (behind b p) (c ∷ cs) in
    if_false (if b == 92 then Some (mark s p b) else None) (joint more) (is_dark (s + 1) (behind b p) (c ∷ cs) e) ∙ no_joint (s + 1) (behind b p) (c ∷ cs) e

runs-word : (s : ℕ) (p : Place) (w rest : List ℕ) → NoneOf is_space w → runs (marked s p (w ++ 32 ∷ rest)) ≡ marked s p w ∷ runs (marked (start_behind s w + 1) (behind 32 (place_behind p w)) rest)
unfolding start_behind place_behind
runs-word s p [] rest h = refl
runs-word s p (b ∷ bs) rest h =
    let more = marked (s + 1) (behind b p) (bs ++ 32 ∷ rest) in
    if_false ([] ∷ runs more) (onto_first (mark s p b) (runs more)) h.0 ∙ ap (onto_first (mark s p b)) (runs-word (s + 1) (behind b p) bs rest h.1)

runs-last : (s : ℕ) (p : Place) (w : List ℕ) → NoneOf is_space w → runs (marked s p w) ≡ marked s p w ∷ []
runs-last s p [] h = refl
runs-last s p (b ∷ bs) h =
    let more = marked (s + 1) (behind b p) bs in
    if_false ([] ∷ runs more) (onto_first (mark s p b) (runs more)) h.0 ∙ ap (onto_first (mark s p b)) (runs-last (s + 1) (behind b p) bs h.1)

abbrev words_at : List (List Mark) → Line
words_at rs = map (λ (t : Spot). t.word) (spots rs)

words-word : (s : ℕ) (p : Place) (w : List ℕ) (rs : List (List Mark)) → ends_well w ≡ true → words_at (marked s p w ∷ rs) ≡ w ∷ words_at rs
words-word s p [] rs e = absurd cc
words-word s p (b ∷ bs) rs e = ap (λ bytes. (b ∷ bytes) ∷ words_at rs) (bytes-marked (s + 1) (behind b p) bs)

words-spelled : (s : ℕ) (p : Place) (l : Line) → AreTokens l → words_at (runs (marked s p (spelled l))) ≡ l
words-spelled s p [] h = refl
words-spelled s p (w ∷ []) h = ap words_at (runs-last s p w (no_space w h.0.bytes)) ∙ words-word s p w [] h.0.ends
words-spelled s p (w ∷ v ∷ ws) h =
    ap words_at (runs-word s p w (spelled (v ∷ ws)) (no_space w h.0.bytes))
    ∙ (words-word s p w _ h.0.ends ∙ ap (λ l. w ∷ l) (words-spelled (start_behind s w + 1) (behind 32 (place_behind p w)) (v ∷ ws) h.1))

-- no bad byte in a word
bad-word : (s : ℕ) (p : Place) (w rest : List ℕ) → AreWordBytes w → ends_in_backslash w ≡ false → first_bad (marked s p (w ++ rest)) ≡ first_bad (marked (start_behind s w) (place_behind p w) rest)
unfolding start_behind place_behind
bad-word s p [] rest h e = refl
bad-word s p (b ∷ []) rest h e = rw (h.0.space, h.0.control, e) refl
bad-word s p (b ∷ c ∷ cs) rest h e =
    let more = marked (s + 1) (behind b p) ((c ∷ cs) ++ rest) in
    let control : is_control (mark s p b) ≡ false = rw (h.0.space, h.0.control) refl in
    let inner : (b == 92) && is_space c ≡ false = rw (h.1.0.space) (and_false (b == 92)) in
    if_false (Some (BadByteAt p)) (first_bad more) (or_false control inner) ∙ bad-word (s + 1) (behind b p) (c ∷ cs) rest h.1 e

bad-spelled : (s : ℕ) (p : Place) (l : Line) → AreTokens l → first_bad (marked s p (spelled l)) ≡ None
bad-spelled s p [] h = refl
bad-spelled s p (w ∷ []) h = ap (λ a. first_bad (marked s p a)) (sym (append-nil w)) ∙ bad-word s p w [] h.0.bytes h.0.open_end
bad-spelled s p (w ∷ v ∷ ws) h = bad-word s p w (32 ∷ spelled (v ∷ ws)) h.0.bytes h.0.open_end ∙ bad-spelled (start_behind s w + 1) (behind 32 (place_behind p w)) (v ∷ ws) h.1

-- LINES

abbrev pub is_token_line : Line → Bool
is_token_line l = has_words l && list_all is_token l

line-front : (s : ℕ) (p : Place) (w : Word) (ws : Line) (rest : List ℕ) → AreTokens (w ∷ ws) → layout_from s p (spelled (w ∷ ws) ++ 10 ∷ rest) ≡ single (marked s p (spelled (w ∷ ws))) ∷ layout_from (start_behind s (spelled (w ∷ ws)) + 1) (behind 10 (place_behind p (spelled (w ∷ ws)))) rest
line-front s p w ws rest h =
    let line = spelled (w ∷ ws) in
    let whole = comment-whole s p line (none_in_spelled (λ b. b == 35) no_hash refl (w ∷ ws) h) in
    ap logical_lines (physical-front s p line rest (none_in_spelled (λ b. b == 10) no_line_end refl (w ∷ ws) h))
    ∙ (ap (λ ms. with_line ms (joint ms) (layout_from (start_behind s line + 1) (behind 10 (place_behind p line)) rest)) whole
    ∙ ap (λ j. with_line (marked s p line) j (layout_from (start_behind s line + 1) (behind 10 (place_behind p line)) rest)) (no_joint s p line (spelled_ends w ws h)))

-- what is said of the lines from a place on
record IsWritten (ls : List Line) (found : List Logical) : Type 0 where
  flawless : AreFlawless found
  words : map words_in found ≡ ls

lines_from : (s : ℕ) (p : Place) (ls : List Line) → list_all is_token_line ls ≡ true → IsWritten ls (layout_from s p (text_of_lines ls))
lines_from s p [] e = record { flawless = tt; words = refl }
lines_from s p ([] ∷ ls) e = absurd cc
lines_from s p ((w ∷ ws) ∷ ls) e =
    let h = and_parts (is_token_line (w ∷ ws)) (list_all is_token_line ls) e in
    let tokens = tokens_parts (w ∷ ws) h.0 in
    let line = spelled (w ∷ ws) in
    let rest = lines_from (start_behind s line + 1) (behind 10 (place_behind p line)) ls h.1 in
    subst (IsWritten ((w ∷ ws) ∷ ls)) (sym (line-front s p w ws (text_of_lines ls) tokens))
    (record {
      flawless = (bad-spelled s p (w ∷ ws) tokens, rest.flawless);
      words = ap (λ l. l ∷ map words_in (layout_from (start_behind s line + 1) (behind 10 (place_behind p line)) (text_of_lines ls))) (words-spelled s p (w ∷ ws) tokens)
          ∙ ap (λ ms. (w ∷ ws) ∷ ms) rest.words;
    })

filter-lines : (ls : List Line) → list_all is_token_line ls ≡ true → filter has_words ls ≡ ls
filter-lines [] e = refl
filter-lines ([] ∷ ls) e = absurd cc
filter-lines ((w ∷ ws) ∷ ls) e = ap (λ ms. (w ∷ ws) ∷ ms) (filter-lines ls (and_parts (is_token_line (w ∷ ws)) (list_all is_token_line ls) e).1)

pub lines_flawless : (ls : List Line) → list_all is_token_line ls ≡ true → AreFlawless (layout (text_of_lines ls))
lines_flawless ls e = (lines_from 0 (record { line = 1; column = 1 }) ls e).flawless

pub lines_of-text_of_lines : (ls : List Line) → list_all is_token_line ls ≡ true → lines_of (text_of_lines ls) ≡ ls
lines_of-text_of_lines ls e = ap (filter has_words) (lines_from 0 (record { line = 1; column = 1 }) ls e).words ∙ filter-lines ls e
