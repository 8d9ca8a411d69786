-- The words of a text without layout fault are tokens, and have no more bytes than the text.
use Rattle.std.proofs.Common.{◌≡◌, ◌≢◌, ◌≤◌, ◌+◌, ◌==◌, ℕ, suc, List, [], ◌∷◌, ◌++◌, map, filter, length, Bool, true, false, not, ◌&&◌, ◌||◌, inl, inr, refl, sym, ◌∙◌, ap, arith, Option, None, Some}
use Rattle.std.specs.Prelude.{if◌then◌else◌, nat_lt}
use Rattle.std.specs.List.{list_all}
use Rattle.std.proofs.lemmas.Bool.{lt-ltb, ltb-false}
use Rattle.std.proofs.lemmas.Bool.Decides.{eqb_tells}
use Rattle.rm_base.specs.declared.numbers.Place.{Place}
use Rattle.rm_model.specs.WellFormed.{is_token, ends_in_backslash}
use Rattle.blif_lines.specs.Layout.{Mark, Spot, Flaw, BadByteAt, OpenJoinAt, Logical, is_blank, is_control, onto_first, runs, spots, tokens_in, ends_token, first_bad, joint, before_joint, without_comment, physical_lines, marked, behind, earlier, with_line, logical_lines, layout, words_in, has_words, lines_of}
use Rattle.blif_format.specs.Text.{Line}
use Rattle.rm_base.proofs.Public.{and_first, and_second, neither_first, neither_second}
use Rattle.blif_reader.specs.Fit.{AreTokens}
use Rattle.rm_base.specs.Words.{Word, is_word_byte}

-- RUNS OF BYTES
abbrev bytes_of : List Mark → List ℕ
bytes_of ms = map (λ (m : Mark). m.byte) ms

abbrev is_plain : Mark → Bool
is_plain m = not (m.byte == 35)

-- a run that is empty or a token
abbrev is_run : List Mark → Bool
is_run r = list_all is_word_byte (bytes_of r) && not (ends_in_backslash (bytes_of r))

pub false_true : false ≡ true → ⊥
false_true e = cc

-- a byte that is neither blank, nor control, nor `#`
word_byte : (b : ℕ) → ((b == 32) || ((b == 9) || (b == 13))) ≡ false → (nat_lt b 32 || (b == 127)) ≡ false → not (b == 35) ≡ true → is_word_byte b ≡ true
word_byte b blank control plain =
    let most : 32 ≤ b = ltb-false b 32 (neither_first (nat_lt b 32) (b == 127) control) in
    let other : (b == 127) ≡ false = neither_second (nat_lt b 32) (b == 127) control in
    let more : nat_lt 32 b ≡ true = lt-ltb 32 b (not_32 most (neither_first (b == 32) ((b == 9) || (b == 13)) blank)) in
    ap (λ t. t && (not (b == 35) && not (b == 127))) more ∙ ap (λ t. t && not (b == 127)) plain ∙ ap not other
  where
    not_32 : 32 ≤ b → (b == 32) ≡ false → 32 + 1 ≤ b
    not_32 h e = elim (eqb_tells b 32) [ inl t ↦ absurd (false_true (sym e ∙ t.0)) | inr t ↦ let d : b ≢ 32 = t.1 in omega arith ]

abbrev AreRuns : List (List Mark) → Type 0
AreRuns [] = Unit {0}
AreRuns (r ∷ rs) = (is_run r ≡ true) × AreRuns rs

-- where the next byte ends the token, the first run is empty
abbrev first_is_empty : List (List Mark) → Bool
first_is_empty [] = true
first_is_empty ([] ∷ rs) = true
first_is_empty ((m ∷ ms) ∷ rs) = false

onto_some : (m : Mark) (rs : List (List Mark)) → first_is_empty (onto_first m rs) ≡ false
onto_some m [] = refl
onto_some m (r ∷ rs) = refl

empty_ends : (ms : List Mark) → first_is_empty (runs ms) ≡ true → ends_token ms ≡ true
empty_ends [] e = refl
empty_ends (m ∷ ms) e = at (is_blank m) refl
  where
    at : (t : Bool) → is_blank m ≡ t → is_blank m ≡ true
    at true h = h
    at false h = let wrong : first_is_empty (onto_first m (runs ms)) ≡ true = rw h at e in absurd (false_true (sym (onto_some m (runs ms)) ∙ wrong))

onto_runs : (m : Mark) (rs : List (List Mark)) → is_word_byte m.byte ≡ true → (first_is_empty rs ≡ true → (m.byte == 92) ≡ false) → AreRuns rs → AreRuns (onto_first m rs)
onto_runs m [] w e h = (ap (λ t. (t && true) && not (m.byte == 92)) w ∙ ap not (e refl), tt)
onto_runs m ([] ∷ rs) w e h = (ap (λ t. (t && true) && not (m.byte == 92)) w ∙ ap not (e refl), h.1)
onto_runs m ((n ∷ ns) ∷ rs) w e h = (ap (λ t. (t && list_all is_word_byte (bytes_of (n ∷ ns))) && not (ends_in_backslash (bytes_of (n ∷ ns)))) w ∙ h.0, h.1)

bad_first : (m : Mark) (ms : List Mark) → first_bad (m ∷ ms) ≡ None → ((is_control m || ((m.byte == 92) && ends_token ms)) ≡ false) × (first_bad ms ≡ None)
bad_first m ms e = at (is_control m || ((m.byte == 92) && ends_token ms)) refl
  where
    at : (t : Bool) → (is_control m || ((m.byte == 92) && ends_token ms)) ≡ t → ((is_control m || ((m.byte == 92) && ends_token ms)) ≡ false) × (first_bad ms ≡ None)
    at true h = let wrong : Some (BadByteAt m.place) ≡ None = rw h at e in cc
    at false h = (h, rw h at e)

good_runs : (ms : List Mark) → list_all is_plain ms ≡ true → first_bad ms ≡ None → AreRuns (runs ms)
good_runs [] p e = (refl, tt)
good_runs (m ∷ ms) p e = at (is_blank m) refl (good_runs ms (and_second (is_plain m) (list_all is_plain ms) p) (bad_first m ms e).1)
  where
    no_slash : (s t : Bool) → t ≡ true → (s && t) ≡ false → s ≡ false
    no_slash true t h e = absurd (false_true (sym e ∙ h))
    no_slash false t h e = refl

    at : (t : Bool) → is_blank m ≡ t → AreRuns (runs ms) → AreRuns (runs (m ∷ ms))
    at true h rs = rw h (refl, rs)
    at false h rs =
        let sound : (is_control m || ((m.byte == 92) && ends_token ms)) ≡ false = (bad_first m ms e).0 in
        let control : (nat_lt m.byte 32 || (m.byte == 127)) ≡ false = ap (λ t. not t && (nat_lt m.byte 32 || (m.byte == 127))) (sym h) ∙ neither_first (is_control m) ((m.byte == 92) && ends_token ms) sound in
        rw h (onto_runs m (runs ms) (word_byte m.byte h control (and_first (is_plain m) (list_all is_plain ms) p)) (λ f. no_slash (m.byte == 92) (ends_token ms) (empty_ends ms f) (neither_second (is_control m) ((m.byte == 92) && ends_token ms) sound)) rs)

-- TOKENS
abbrev pub spelled : List Spot → List Word
spelled ss = map (λ (s : Spot). s.word) ss

runs_tokens : (rs : List (List Mark)) → AreRuns rs → list_all is_token (spelled (spots rs)) ≡ true
runs_tokens [] h = refl
runs_tokens ([] ∷ rs) h = runs_tokens rs h.1
runs_tokens ((m ∷ ms) ∷ rs) h = ap (λ t. t && list_all is_token (spelled (spots rs))) h.0 ∙ runs_tokens rs h.1

line_tokens : (ms : List Mark) → list_all is_plain ms ≡ true → first_bad ms ≡ None → list_all is_token (spelled (tokens_in ms)) ≡ true
line_tokens ms p e = runs_tokens (runs ms) (good_runs ms p e)

uncommented : (ms : List Mark) → list_all is_plain (without_comment ms) ≡ true
uncommented [] = refl
uncommented (m ∷ ms) = at (m.byte == 35) refl (uncommented ms)
  where
    at : (t : Bool) → (m.byte == 35) ≡ t → list_all is_plain (without_comment ms) ≡ true → list_all is_plain (without_comment (m ∷ ms)) ≡ true
    at true h ih = rw h refl
    at false h ih = rw h (rw h ih)

before_plain : (ms : List Mark) → list_all is_plain ms ≡ true → list_all is_plain (before_joint ms) ≡ true
before_plain [] p = refl
before_plain (m ∷ ms) p = at (list_all is_blank ms) refl (before_plain ms (and_second (is_plain m) (list_all is_plain ms) p))
  where
    at : (t : Bool) → list_all is_blank ms ≡ t → list_all is_plain (before_joint ms) ≡ true → list_all is_plain (before_joint (m ∷ ms)) ≡ true
    at true h ih = rw h refl
    at false h ih = rw h (ap (λ t. t && list_all is_plain (before_joint ms)) (and_first (is_plain m) (list_all is_plain ms) p) ∙ ih)

no_earlier : (a b : Option Flaw) → earlier a b ≡ None → (a ≡ None) × (b ≡ None)
no_earlier None b e = (refl, e)
no_earlier (Some f) b e = cc

words_both : (ss ts : List Spot) → list_all is_token (spelled ss) ≡ true → list_all is_token (spelled ts) ≡ true → list_all is_token (spelled (ss ++ ts)) ≡ true
words_both [] ts h k = k
words_both (s ∷ ss) ts h k = ap (λ t. t && list_all is_token (spelled (ss ++ ts))) (and_first (is_token s.word) (list_all is_token (spelled ss)) h) ∙ words_both ss ts (and_second (is_token s.word) (list_all is_token (spelled ss)) h) k

with_tokens : (line : List Mark) (o : Option Mark) (ls : List Logical) → list_all is_plain line ≡ true → AreTokens ls → AreTokens (with_line line o ls)
with_tokens line None ls p h = (λ e. line_tokens line p e, h)
with_tokens line (Some m) [] p h = (λ e. let wrong : Some (OpenJoinAt m.place) ≡ None = (no_earlier (first_bad (before_joint line)) (Some (OpenJoinAt m.place)) e).1 in cc, tt)
with_tokens line (Some m) (l ∷ ls) p h = (λ e. let n = no_earlier (first_bad (before_joint line)) l.flaw e in words_both (tokens_in (before_joint line)) l.tokens (line_tokens (before_joint line) (before_plain line p) n.0) (h.0 n.1), h.1)

lines_tokens : (ps : List (List Mark)) → AreTokens (logical_lines ps)
lines_tokens [] = tt
lines_tokens (p ∷ ps) = with_tokens (without_comment p) (joint (without_comment p)) (logical_lines ps) (uncommented p) (lines_tokens ps)

pub layout_tokens : (text : List ℕ) → AreTokens (layout text)
layout_tokens text = lines_tokens (physical_lines (marked 0 (record { line = 1; column = 1 }) text))

-- SIZES
abbrev pub word_bytes : List Word → ℕ
word_bytes [] = 0
word_bytes (w ∷ ws) = length w + word_bytes ws

abbrev pub line_bytes : List Line → ℕ
line_bytes [] = 0
line_bytes (l ∷ ls) = word_bytes l + line_bytes ls

abbrev pub run_bytes : List (List Mark) → ℕ
run_bytes [] = 0
run_bytes (r ∷ rs) = length r + run_bytes rs

length_bytes : (ms : List Mark) → length (bytes_of ms) ≡ length ms
length_bytes [] = refl
length_bytes (m ∷ ms) = ap suc (length_bytes ms)

onto_size : (m : Mark) (rs : List (List Mark)) → run_bytes (onto_first m rs) ≡ suc (run_bytes rs)
onto_size m [] = refl
onto_size m (r ∷ rs) = omega arith

pub runs_size : (ms : List Mark) → run_bytes (runs ms) ≤ length ms
runs_size [] = omega arith
runs_size (m ∷ ms) = at (is_blank m) (runs_size ms)
  where
    at : (t : Bool) → run_bytes (runs ms) ≤ length ms → run_bytes (if t then [] ∷ runs ms else onto_first m (runs ms)) ≤ suc (length ms)
    at true h = omega arith
    at false h = let e : run_bytes (onto_first m (runs ms)) ≡ suc (run_bytes (runs ms)) = onto_size m (runs ms) in omega arith

spots_size : (rs : List (List Mark)) → word_bytes (spelled (spots rs)) ≡ run_bytes rs
spots_size [] = refl
spots_size ([] ∷ rs) = let h : word_bytes (spelled (spots rs)) ≡ run_bytes rs = spots_size rs in omega arith
spots_size ((m ∷ ms) ∷ rs) = let e : length (bytes_of ms) ≡ length ms = length_bytes ms in let h : word_bytes (spelled (spots rs)) ≡ run_bytes rs = spots_size rs in omega arith

tokens_size : (ms : List Mark) → word_bytes (spelled (tokens_in ms)) ≤ length ms
tokens_size ms = let e : word_bytes (spelled (spots (runs ms))) ≡ run_bytes (runs ms) = spots_size (runs ms) in let h : run_bytes (runs ms) ≤ length ms = runs_size ms in omega arith

pub comment_size : (ms : List Mark) → length (without_comment ms) ≤ length ms
comment_size [] = omega arith
comment_size (m ∷ ms) = at (m.byte == 35) (comment_size ms)
  where
    at : (t : Bool) → length (without_comment ms) ≤ length ms → length (if t then [] else m ∷ without_comment ms) ≤ suc (length ms)
    at true h = omega arith
    at false h = omega arith

pub before_size : (ms : List Mark) → length (before_joint ms) ≤ length ms
before_size [] = omega arith
before_size (m ∷ ms) = at (list_all is_blank ms) (before_size ms)
  where
    at : (t : Bool) → length (before_joint ms) ≤ length ms → length (if t then [] else m ∷ before_joint ms) ≤ suc (length ms)
    at true h = omega arith
    at false h = omega arith

words_append : (ss ts : List Spot) → word_bytes (spelled (ss ++ ts)) ≡ word_bytes (spelled ss) + word_bytes (spelled ts)
words_append [] ts = omega arith
words_append (s ∷ ss) ts = let h : word_bytes (spelled (ss ++ ts)) ≡ word_bytes (spelled ss) + word_bytes (spelled ts) = words_append ss ts in omega arith

with_size : (line : List Mark) (o : Option Mark) (ls : List Logical) → line_bytes (map words_in (with_line line o ls)) ≤ length line + line_bytes (map words_in ls)
with_size line None ls = let h : word_bytes (spelled (tokens_in line)) ≤ length line = tokens_size line in omega arith
with_size line (Some m) [] =
    let h : word_bytes (spelled (tokens_in (before_joint line))) ≤ length (before_joint line) = tokens_size (before_joint line) in
    let k : length (before_joint line) ≤ length line = before_size line in omega arith
with_size line (Some m) (l ∷ ls) =
    let h : word_bytes (spelled (tokens_in (before_joint line))) ≤ length (before_joint line) = tokens_size (before_joint line) in
    let k : length (before_joint line) ≤ length line = before_size line in
    let j : word_bytes (spelled (tokens_in (before_joint line) ++ l.tokens)) ≡ word_bytes (spelled (tokens_in (before_joint line))) + word_bytes (spelled l.tokens) = words_append (tokens_in (before_joint line)) l.tokens in omega arith

abbrev pub piece_bytes : List (List Mark) → ℕ
piece_bytes [] = 0
piece_bytes (p ∷ ps) = length p + piece_bytes ps

logical_size : (ps : List (List Mark)) → line_bytes (map words_in (logical_lines ps)) ≤ piece_bytes ps
logical_size [] = omega arith
logical_size (p ∷ ps) =
    let h : line_bytes (map words_in (with_line (without_comment p) (joint (without_comment p)) (logical_lines ps))) ≤ length (without_comment p) + line_bytes (map words_in (logical_lines ps)) = with_size (without_comment p) (joint (without_comment p)) (logical_lines ps) in
    let k : length (without_comment p) ≤ length p = comment_size p in
    let j : line_bytes (map words_in (logical_lines ps)) ≤ piece_bytes ps = logical_size ps in omega arith

onto_pieces : (m : Mark) (ps : List (List Mark)) → piece_bytes (onto_first m ps) ≡ suc (piece_bytes ps)
onto_pieces m [] = refl
onto_pieces m (p ∷ ps) = omega arith

pub pieces_size : (ms : List Mark) → piece_bytes (physical_lines ms) ≤ length ms
pieces_size [] = omega arith
pieces_size (m ∷ ms) = at (m.byte == 10) (pieces_size ms)
  where
    at : (t : Bool) → piece_bytes (physical_lines ms) ≤ length ms → piece_bytes (if t then [] ∷ physical_lines ms else onto_first m (physical_lines ms)) ≤ suc (length ms)
    at true h = omega arith
    at false h = let e : piece_bytes (onto_first m (physical_lines ms)) ≡ suc (piece_bytes (physical_lines ms)) = onto_pieces m (physical_lines ms) in omega arith

pub marked_size : (start : ℕ) (place : Place) (bs : List ℕ) → length (marked start place bs) ≡ length bs
marked_size start place [] = refl
marked_size start place (b ∷ bs) = ap suc (marked_size (start + 1) (behind b place) bs)

filter_size : (ls : List Line) → line_bytes (filter has_words ls) ≤ line_bytes ls
filter_size [] = omega arith
filter_size (l ∷ ls) = at (has_words l) (filter_size ls)
  where
    at : (t : Bool) → line_bytes (filter has_words ls) ≤ line_bytes ls → line_bytes (if t then l ∷ filter has_words ls else filter has_words ls) ≤ word_bytes l + line_bytes ls
    at true h = omega arith
    at false h = omega arith

-- the words of a text have no more bytes than the text
pub text_size : (text : List ℕ) → line_bytes (lines_of text) ≤ length text
text_size text =
    let all : List Mark = marked 0 (record { line = 1; column = 1 }) text in
    let a : line_bytes (filter has_words (map words_in (logical_lines (physical_lines all)))) ≤ line_bytes (map words_in (logical_lines (physical_lines all))) = filter_size (map words_in (logical_lines (physical_lines all))) in
    let b : line_bytes (map words_in (logical_lines (physical_lines all))) ≤ piece_bytes (physical_lines all) = logical_size (physical_lines all) in
    let c : piece_bytes (physical_lines all) ≤ length all = pieces_size all in
    let d : length all ≡ length text = marked_size 0 (record { line = 1; column = 1 }) text in
    omega arith
