-- A model has no more covers and literals than its text has bytes, and few sources and observed points.
use Rattle.std.proofs.Common.{◌≡◌, ◌≤◌, ◌+◌, ◌*◌, ℕ, suc, List, [], ◌∷◌, ◌++◌, map, filter, length, Bool, true, false, not, ◌&&◌, ◌||◌, inl, inr, refl, sym, ◌∙◌, ap, subst, arith, length-append}
use Rattle.std.specs.Prelude.{if◌then◌else◌, codes}
use Rattle.std.specs.List.{filter_map}
use Rattle.rm_model.specs.Words.{is_word, literal_byte}
use Rattle.rm_model.specs.Value.{is_among, source_names, observed_names, control_of}
use Rattle.rm_model.specs.WellFormed.{is_distinct}
use Rattle.rm_model.specs.declared.parts.Literal.{Literal}
use Rattle.rm_model.specs.declared.parts.Cover.{Cover}
use Rattle.rm_model.specs.declared.parts.Latch.{Latch as LatchPart}
use Rattle.rm_model.specs.declared.parts.Model.{Model as CircuitModel}
use Rattle.blif_format.specs.Text.{Line, row_words, cover_words}
use Rattle.blif_format.specs.Grammar.{before, begins_with, is_dotted, names_lines}
use Rattle.blif_format.specs.Uses.{Use, is_source_role, is_observed_role, names_in, distinct_count, is_clock, is_input, is_output}
use Rattle.blif_format.specs.declared.words.Role.{Role}
use Rattle.blif_format.specs.declared.words.Role.TheVariants.{Input, ClockInput, Output, CoverInput, CoverOutput, LatchInput, LatchOutput, Control}
use Rattle.rm_model.specs.Size.{rows_weight, covers_weight}
use Rattle.blif_reader.specs.Inner.Tally.{plays, is_latch}
use Rattle.blif_reader.proofs.Compared.{word_tells, word_turned}
use Rattle.blif_reader.proofs.GrammarLaws.{begins_dotted}
use Rattle.blif_reader.proofs.NameLaws.{is_latch_input, is_control}
use Rattle.blif_reader.proofs.Plays.{names_among, plays_source}
use Rattle.blif_reader.proofs.CleanLaws.{IsClean}
use Rattle.blif_reader.proofs.FormLaws.{NamesAre, sources_once, among_append, among_others}
use Rattle.blif_reader.proofs.TokenLaws.{word_bytes, line_bytes}
use Rattle.rm_base.proofs.Public.{and_first, and_second}
use Rattle.rm_base.specs.Words.{Word}
use Rattle.rm_model.proofs.Public.{is_word-same, same_word}

-- COVERS AND LITERALS
-- each line that a `.names` begins, and its rows
abbrev cover_bytes : List (Line × List Line) → ℕ
cover_bytes [] = 0
cover_bytes (x ∷ xs) = 6 + line_bytes x.1 + cover_bytes xs

names_bytes : (l : Line) → begins_with (codes ".names") l ≡ true → 6 ≤ word_bytes l
names_bytes [] e = cc
names_bytes (w ∷ ws) e = let same : codes ".names" ≡ w = same_word (codes ".names") w e in let six : length w ≡ 6 = ap length (sym same) in omega arith

-- rows up to the next command, and the covers behind
lines_size : (ls : List Line) → line_bytes (before is_dotted ls) + cover_bytes (names_lines ls) ≤ line_bytes ls
lines_size [] = omega arith
lines_size (l ∷ ls) = at (is_dotted l) refl (begins_with (codes ".names") l) refl (lines_size ls)
  where
    at : (d : Bool) → is_dotted l ≡ d → (b : Bool) → begins_with (codes ".names") l ≡ b → line_bytes (before is_dotted ls) + cover_bytes (names_lines ls) ≤ line_bytes ls → line_bytes (before is_dotted (l ∷ ls)) + cover_bytes (names_lines (l ∷ ls)) ≤ word_bytes l + line_bytes ls
    at true e true f ih = let six : 6 ≤ word_bytes l = names_bytes l f in rw (e, f) (omega arith)
    at true e false f ih = rw (e, f) (omega arith)
    at false e b f ih = rw (e, begins_dotted l e) (omega arith)

row_size : (on : Bool) (r : List Literal) → length r + 1 ≤ word_bytes (row_words on r)
row_size true [] = omega arith
row_size false [] = omega arith
row_size true (l ∷ ls) = let e : length (map literal_byte ls) ≡ length ls = map_size ls in omega arith
  where
    map_size : (ls : List Literal) → length (map literal_byte ls) ≡ length ls
    map_size [] = refl
    map_size (l ∷ ls) = ap suc (map_size ls)
row_size false (l ∷ ls) = let e : length (map literal_byte ls) ≡ length ls = map_size ls in omega arith
  where
    map_size : (ls : List Literal) → length (map literal_byte ls) ≡ length ls
    map_size [] = refl
    map_size (l ∷ ls) = ap suc (map_size ls)

rows_size : (on : Bool) (rs : List (List Literal)) → rows_weight rs ≤ 2 * line_bytes (map (row_words on) rs)
rows_size on [] = omega arith
rows_size on (r ∷ rs) = let h : length r + 1 ≤ word_bytes (row_words on r) = row_size on r in let k : rows_weight rs ≤ 2 * line_bytes (map (row_words on) rs) = rows_size on rs in omega arith

covers_size : (cs : List Cover) → covers_weight cs ≤ 2 * cover_bytes (map cover_words cs)
covers_size [] = omega arith
covers_size (c ∷ cs) =
    let h : rows_weight c.rows ≤ 2 * line_bytes (map (row_words c.on) c.rows) = rows_size c.on c.rows in
    let k : covers_weight cs ≤ 2 * cover_bytes (map cover_words cs) = covers_size cs in omega arith

covers_count : (cs : List Cover) → length cs ≤ cover_bytes (map cover_words cs)
covers_count [] = omega arith
covers_count (c ∷ cs) = let k : length cs ≤ cover_bytes (map cover_words cs) = covers_count cs in omega arith

pub weight_small : (ls : List Line) (cs : List Cover) → names_lines ls ≡ map cover_words cs → covers_weight cs ≤ 2 * line_bytes ls
weight_small ls cs e =
    let h : covers_weight cs ≤ 2 * cover_bytes (map cover_words cs) = covers_size cs in
    let k : cover_bytes (names_lines ls) ≡ cover_bytes (map cover_words cs) = ap cover_bytes e in
    let j : line_bytes (before is_dotted ls) + cover_bytes (names_lines ls) ≤ line_bytes ls = lines_size ls in omega arith

pub covers_small : (ls : List Line) (cs : List Cover) → names_lines ls ≡ map cover_words cs → length cs ≤ line_bytes ls
covers_small ls cs e =
    let h : length cs ≤ cover_bytes (map cover_words cs) = covers_count cs in
    let k : cover_bytes (names_lines ls) ≡ cover_bytes (map cover_words cs) = ap cover_bytes e in
    let j : line_bytes (before is_dotted ls) + cover_bytes (names_lines ls) ≤ line_bytes ls = lines_size ls in omega arith

-- SOURCES
-- the list without a name
abbrev pub without : Word → List Word → List Word
without x [] = []
without x (y ∷ ys) = if is_word x y then without x ys else y ∷ without x ys

pub among_without : (x y : Word) (ys : List Word) → is_word x y ≡ false → is_among (without x ys) y ≡ is_among ys y
among_without x y [] e = refl
among_without x y (z ∷ zs) e = at (is_word x z) refl (among_without x y zs e)
  where
    at : (t : Bool) → is_word x z ≡ t → is_among (without x zs) y ≡ is_among zs y → is_among (without x (z ∷ zs)) y ≡ (is_word y z || is_among zs y)
    at true h ih =
        let same : x ≡ z = same_word x z h in
        let other : is_word y z ≡ false = ap (is_word y) (sym same) ∙ word_turned y x ∙ e in
        rw h (rw other ih)
    at false h ih = rw h (ap (λ b. is_word y z || b) ih)

gone : (x : Word) (ys : List Word) → is_among (without x ys) x ≡ false
gone x [] = refl
gone x (y ∷ ys) = at (is_word x y) refl (gone x ys)
  where
    at : (t : Bool) → is_word x y ≡ t → is_among (without x ys) x ≡ false → is_among (without x (y ∷ ys)) x ≡ false
    at true h ih = rw h ih
    at false h ih = rw h (rw h ih)

count_absent : (x : Word) (ys : List Word) → is_among ys x ≡ false → distinct_count (without x ys) ≡ distinct_count ys
count_absent x [] e = refl
count_absent x (y ∷ ys) e = at (is_word x y) refl (count_absent x ys)
  where
    at : (t : Bool) → is_word x y ≡ t → (is_among ys x ≡ false → distinct_count (without x ys) ≡ distinct_count ys) → distinct_count (without x (y ∷ ys)) ≡ distinct_count (y ∷ ys)
    at true h ih = let wrong : true ≡ false = rw h at e in cc
    at false h ih = rw h (ap (λ (b : Bool). if b then distinct_count (without x ys) else 1 + distinct_count (without x ys)) (among_without x y ys h) ∙ ap (λ (n : ℕ). if is_among ys y then n else 1 + n) (ih (rw h at e)))

-- one name less
pub count_without : (x : Word) (ys : List Word) → is_among ys x ≡ true → 1 + distinct_count (without x ys) ≤ distinct_count ys
count_without x [] e = cc
count_without x (y ∷ ys) e = at (is_word x y) refl (is_among ys x) refl (count_without x ys)
  where
    at : (t : Bool) → is_word x y ≡ t → (b : Bool) → is_among ys x ≡ b → (is_among ys x ≡ true → 1 + distinct_count (without x ys) ≤ distinct_count ys) → 1 + distinct_count (without x (y ∷ ys)) ≤ distinct_count (y ∷ ys)
    at true h true i ih = let less : 1 + distinct_count (without x ys) ≤ distinct_count ys = ih i in let same : is_among ys y ≡ true = ap (is_among ys) (sym (same_word x y h)) ∙ i in rw (h, same) less
    at true h false i ih = let kept : distinct_count (without x ys) ≡ distinct_count ys = count_absent x ys i in let same : is_among ys y ≡ false = ap (is_among ys) (sym (same_word x y h)) ∙ i in rw (h, same) (omega arith)
    at false h false i ih = let wrong : false ≡ true = sym i ∙ rw h at e in cc
    at false h true i ih = by (is_among ys y) refl (ih i)
      where
        by : (b : Bool) → is_among ys y ≡ b → 1 + distinct_count (without x ys) ≤ distinct_count ys → 1 + distinct_count (without x (y ∷ ys)) ≤ distinct_count (y ∷ ys)
        by true j less = let same : is_among (without x ys) y ≡ true = among_without x y ys h ∙ j in rw (h, same, j) less
        by false j less = let same : is_among (without x ys) y ≡ false = among_without x y ys h ∙ j in rw (h, same, j) (omega arith)

-- different names of a list are no more than its different names
pub fewer : (xs ys : List Word) → is_distinct xs ≡ true → ((z : Word) → is_among xs z ≡ true → is_among ys z ≡ true) → length xs ≤ distinct_count ys
fewer [] ys h k = omega arith
fewer (x ∷ xs) ys h k =
    let more : 1 + distinct_count (without x ys) ≤ distinct_count ys = count_without x ys (k x (ap (λ b. b || is_among xs x) (is_word-same x))) in
    let rest : length xs ≤ distinct_count (without x ys) = fewer xs (without x ys) (and_second (not (is_among xs x)) (is_distinct xs) h) (λ z e. among_without x z ys (other z e) ∙ k z (ap (λ b. is_word z x || b) e ∙ or_last (is_word z x))) in omega arith
  where
    or_last : (a : Bool) → (a || true) ≡ true
    or_last true = refl
    or_last false = refl

    other : (z : Word) → is_among xs z ≡ true → is_word x z ≡ false
    other z e = elim (word_tells x z) [
      | inl t ↦ let there : is_among xs x ≡ true = ap (is_among xs) t.1 ∙ e in let wrong : false ≡ true = ap not (sym there) ∙ and_first (not (is_among xs x)) (is_distinct xs) h in cc
      | inr t ↦ t.0
    ]

pub sources_small : (us : List Use) (m : CircuitModel) → NamesAre us m → IsClean us → length (source_names m) ≤ 1024
sources_small us m n c =
    let few : length (source_names m) ≤ distinct_count (names_in is_source_role us) = fewer (source_names m) (names_in is_source_role us) (sources_once us m n c) used in
    let most : distinct_count (names_in is_source_role us) ≤ 1024 = c.sources in omega arith
  where
    there : (t : Role → Bool) (xs : List Word) → names_in t us ≡ xs → (x : Word) → is_among xs x ≡ plays t us x
    there t xs e x = ap (λ ys. is_among ys x) (sym e) ∙ names_among t us x

    join : (i k l : Bool) → ((i || (k && not i)) || l) ≡ true → (i || (k || l)) ≡ true
    join true k l e = refl
    join false true l e = refl
    join false false l e = e

    used : (z : Word) → is_among (source_names m) z ≡ true → is_among (names_in is_source_role us) z ≡ true
    used z e =
        names_among is_source_role us z
        ∙ plays_source us z
        ∙ ap (λ b. b || (plays is_clock us z || plays is_latch us z)) (sym (there is_input m.inputs n.inputs z))
        ∙ ap (λ b. is_among m.inputs z || (b || plays is_latch us z)) (sym (there is_clock m.clocks n.clocks z))
        ∙ ap (λ b. is_among m.inputs z || (is_among m.clocks z || b)) (sym (there is_latch (map (λ (l : LatchPart). l.output) m.latches) n.latches z))
        ∙ join (is_among m.inputs z) (is_among m.clocks z) (is_among (map (λ (l : LatchPart). l.output) m.latches) z)
        (ap (λ b. (is_among m.inputs z || b) || is_among (map (λ (l : LatchPart). l.output) m.latches) z) (sym (among_others m.inputs m.clocks z))
        ∙ ap (λ b. b || is_among (map (λ (l : LatchPart). l.output) m.latches) z) (sym (among_append m.inputs (filter (λ x. not (is_among m.inputs x)) m.clocks) z))
        ∙ sym (among_append (m.inputs ++ filter (λ x. not (is_among m.inputs x)) m.clocks) (map (λ (l : LatchPart). l.output) m.latches) z)
        ∙ e)

-- OBSERVED POINTS
observed_count : (us : List Use) → length (names_in is_observed_role us) ≡ (length (names_in is_output us) + length (names_in is_latch_input us)) + length (names_in is_control us)
observed_count [] = omega arith
observed_count (u ∷ us) = at u.role refl (observed_count us)
  where
    at : (r : Role) → u.role ≡ r → length (names_in is_observed_role us) ≡ (length (names_in is_output us) + length (names_in is_latch_input us)) + length (names_in is_control us) → length (names_in is_observed_role (u ∷ us)) ≡ (length (names_in is_output (u ∷ us)) + length (names_in is_latch_input (u ∷ us))) + length (names_in is_control (u ∷ us))
    at Input e ih = rw e (omega arith)
    at ClockInput e ih = rw e (omega arith)
    at Output e ih = rw e (omega arith)
    at CoverInput e ih = rw e (omega arith)
    at CoverOutput e ih = rw e (omega arith)
    at LatchInput e ih = rw e (omega arith)
    at LatchOutput e ih = rw e (omega arith)
    at Control e ih = rw e (omega arith)

pub observed_length : (us : List Use) (m : CircuitModel) → NamesAre us m → length (names_in is_observed_role us) ≡ length (observed_names m)
observed_length us m n =
    let all : length (names_in is_observed_role us) ≡ (length (names_in is_output us) + length (names_in is_latch_input us)) + length (names_in is_control us) = observed_count us in
    let one : length (names_in is_output us) ≡ length m.outputs = ap length n.outputs in
    let two : length (names_in is_latch_input us) ≡ length (map (λ (l : LatchPart). l.input) m.latches) = ap length n.latch_inputs in
    let three : length (names_in is_control us) ≡ length (filter_map control_of m.latches) = ap length n.controls in
    let first : length (m.outputs ++ map (λ (l : LatchPart). l.input) m.latches) ≡ length m.outputs + length (map (λ (l : LatchPart). l.input) m.latches) = length-append m.outputs (map (λ (l : LatchPart). l.input) m.latches) in
    let whole : length ((m.outputs ++ map (λ (l : LatchPart). l.input) m.latches) ++ filter_map control_of m.latches) ≡ length (m.outputs ++ map (λ (l : LatchPart). l.input) m.latches) + length (filter_map control_of m.latches) = length-append (m.outputs ++ map (λ (l : LatchPart). l.input) m.latches) (filter_map control_of m.latches) in
    omega arith

pub observed_small : (us : List Use) (m : CircuitModel) → NamesAre us m → IsClean us → length (observed_names m) ≤ 4096
observed_small us m n c = subst (λ (k : ℕ). k ≤ 4096) (observed_length us m n) c.observed
