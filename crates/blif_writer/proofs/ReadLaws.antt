-- The lines that are written for a model say that model.
use Rattle.std.proofs.Common.{◌≡◌, ◌==◌, Bool, true, false, List, [], ◌∷◌, ◌++◌, map, filter, refl, ap, sym, ◌∙◌, inr, append_assoc, append-nil, arith}
use Rattle.std.specs.Prelude.{◌&&◌, codes}
use Rattle.std.specs.List.{flat_map}
use Rattle.std.proofs.lemmas.List.Elements.{filter-append}
use Rattle.std.proofs.lemmas.Bool.Decides.{nat_tests}
use Rattle.rm_model.specs.Value.{IsRanked}
use Rattle.rm_model.specs.WellFormed.{IsWellFormed}
use Rattle.rm_model.specs.declared.parts.Literal.{Literal}
use Rattle.rm_model.specs.declared.parts.Literal.TheVariants.{Zero, One, Any}
use Rattle.rm_model.specs.declared.parts.Cover.{Cover}
use Rattle.rm_model.specs.declared.parts.Latch.{Latch}
use Rattle.rm_model.specs.declared.parts.Model.{Model}
use Rattle.blif_format.specs.Text.{Line, clock_lines, cover_lines, cover_words, latch_words, model_lines, row_words}
use Rattle.blif_format.specs.Grammar.{Reads, before, before_end, begins_with, body_of, follow, is_command, is_dotted, names_lines, words_after, words_of}
use Rattle.blif_writer.proofs.LineLaws.{if_false}
use Rattle.rm_base.specs.Words.{Word}

-- TESTS OF LINES

abbrev None_of : (Line → Bool) → List Line → Type 0
None_of test [] = Unit {0}
None_of test (l ∷ ls) = (test l ≡ false) × None_of test ls

none-append : (test : Line → Bool) (xs ys : List Line) → None_of test xs → None_of test ys → None_of test (xs ++ ys)
none-append test [] ys h k = k
none-append test (x ∷ xs) ys h k = (h.0, none-append test xs ys h.1 k)

filter-none : (test : Line → Bool) (xs : List Line) → None_of test xs → filter test xs ≡ []
filter-none test [] h = refl
filter-none test (x ∷ xs) h = if_false (x ∷ filter test xs) (filter test xs) h.0 ∙ filter-none test xs h.1

before-stop : (test : Line → Bool) (xs ys : List Line) (stop : before test ys ≡ []) → None_of test xs → before test (xs ++ ys) ≡ xs
before-stop test [] ys stop h = stop
before-stop test (x ∷ xs) ys stop h = if_false [] (x ∷ before test (xs ++ ys)) h.0 ∙ ap (λ zs. x ∷ zs) (before-stop test xs ys stop h.1)

-- LINES OF LATCHES AND COVERS

abbrev latch_lines : List Latch → List Line
latch_lines ls = map (λ l. codes ".latch" ∷ latch_words l) ls

abbrev rows_of : Cover → List Line
rows_of c = map (row_words c.on) c.rows

abbrev end_line : List Line
end_line = (codes ".end" ∷ []) ∷ []

-- a row begins with no dot
pub row_undotted : (on : Bool) (row : List Literal) → is_dotted (row_words on row) ≡ false
row_undotted true [] = refl
row_undotted false [] = refl
row_undotted on (Zero ∷ ls) = refl
row_undotted on (One ∷ ls) = refl
row_undotted on (Any ∷ ls) = refl

none-rows : (test : Line → Bool) → ((l : Line) → is_dotted l ≡ false → test l ≡ false) → (on : Bool) (rows : List (List Literal)) → None_of test (map (row_words on) rows)
none-rows test each on [] = tt
none-rows test each on (r ∷ rs) = (each (row_words on r) (row_undotted on r), none-rows test each on rs)

none-covers : (test : Line → Bool) → ((l : Line) → is_dotted l ≡ false → test l ≡ false) → ((ws : Line) → test (codes ".names" ∷ ws) ≡ false) → (cs : List Cover) → None_of test (flat_map cover_lines cs)
none-covers test each names [] = tt
none-covers test each names (c ∷ cs) = (names (cover_words c).0, none-append test (rows_of c) (flat_map cover_lines cs) (none-rows test each c.on c.rows) (none-covers test each names cs))

none-latches : (test : Line → Bool) → ((ws : Line) → test (codes ".latch" ∷ ws) ≡ false) → (ls : List Latch) → None_of test (latch_lines ls)
none-latches test each [] = tt
none-latches test each (l ∷ ls) = (each (latch_words l), none-latches test each ls)

none-clocks : (test : Line → Bool) → ((ws : Line) → test (codes ".clock" ∷ ws) ≡ false) → (xs : List Word) → None_of test (clock_lines xs)
none-clocks test each [] = tt
none-clocks test each (x ∷ xs) = (each (x ∷ xs), tt)

-- a word that begins with a dot is no row's first
pub not_first : (word : Word) (l : Line) → is_dotted l ≡ false → begins_with (46 ∷ word) l ≡ false
not_first word [] e = refl
not_first word ([] ∷ ws) e = refl
not_first word ((b ∷ bs) ∷ ws) e = let other : (46 == b) ≡ false = grind (arith, nat_tests) in rw other refl

-- COMMANDS IN ORDER

follow-rows : (on : Bool) (rows : List (List Literal)) (rest : List Line) → follow true rest ≡ true → follow true (map (row_words on) rows ++ rest) ≡ true
follow-rows on [] rest e = e
follow-rows on (r ∷ rs) rest e =
    let more = map (row_words on) rs ++ rest in
    if_false (is_command (row_words on r) && follow (begins_with (codes ".names") (row_words on r)) more) (true && follow true more) (row_undotted on r) ∙ follow-rows on rs rest e

follow-covers : (b : Bool) (cs : List Cover) → follow b (flat_map cover_lines cs) ≡ true
follow-covers b [] = refl
follow-covers b (c ∷ cs) = follow-rows c.on c.rows (flat_map cover_lines cs) (follow-covers true cs)

follow-latches : (b : Bool) (ls : List Latch) (rest : List Line) → ((b : Bool) → follow b rest ≡ true) → follow b (latch_lines ls ++ rest) ≡ true
follow-latches b [] rest h = h b
follow-latches b (l ∷ ls) rest h = follow-latches false ls rest h

follow-clocks : (b : Bool) (xs : List Word) (rest : List Line) → ((b : Bool) → follow b rest ≡ true) → follow b (clock_lines xs ++ rest) ≡ true
follow-clocks b [] rest h = h b
follow-clocks b (x ∷ xs) rest h = h false

-- COVERS AND LATCHES

names-skip : (xs ys : List Line) → None_of (begins_with (codes ".names")) xs → names_lines (xs ++ ys) ≡ names_lines ys
names-skip [] ys h = refl
names-skip (x ∷ xs) ys h = if_false ((words_after x, before is_dotted (xs ++ ys)) ∷ names_lines (xs ++ ys)) (names_lines (xs ++ ys)) h.0 ∙ names-skip xs ys h.1

dotted-front : (cs : List Cover) → before is_dotted (flat_map cover_lines cs ++ end_line) ≡ []
dotted-front [] = refl
dotted-front (c ∷ cs) = refl

names-covers : (cs : List Cover) → names_lines (flat_map cover_lines cs ++ end_line) ≡ map cover_words cs
names-covers [] = refl
names-covers (c ∷ cs) =
    let rest = flat_map cover_lines cs ++ end_line in
    let rows : before is_dotted (rows_of c ++ rest) ≡ rows_of c = before-stop is_dotted (rows_of c) rest (dotted-front cs) (none-rows is_dotted (λ l e. e) c.on c.rows) in
    let others : names_lines (rows_of c ++ rest) ≡ map cover_words cs = names-skip (rows_of c) rest (none-rows (begins_with (codes ".names")) (not_first (codes "names")) c.on c.rows) ∙ names-covers cs in
    ap (λ (ls : List Line). names_lines ((codes ".names" ∷ (cover_words c).0) ∷ ls)) (append_assoc (rows_of c) (flat_map cover_lines cs) end_line)
    ∙ (ap (λ (ls : List Line). ((cover_words c).0, ls) ∷ names_lines (rows_of c ++ rest)) rows ∙ ap (λ es. cover_words c ∷ es) others)

filter-latches : (ls : List Latch) → map words_after (filter (begins_with (codes ".latch")) (latch_lines ls)) ≡ map latch_words ls
filter-latches [] = refl
filter-latches (l ∷ ls) = ap (λ ws. latch_words l ∷ ws) (filter-latches ls)

-- THE WHOLE LIST

-- the lines behind the first three and before `.end`
abbrev inner_lines : Model → List Line
inner_lines m = (clock_lines m.clocks ++ latch_lines m.latches) ++ flat_map cover_lines m.covers

none-inner : (test : Line → Bool) → ((l : Line) → is_dotted l ≡ false → test l ≡ false) → ((ws : Line) → test (codes ".clock" ∷ ws) ≡ false) → ((ws : Line) → test (codes ".latch" ∷ ws) ≡ false) → ((ws : Line) → test (codes ".names" ∷ ws) ≡ false) → (m : Model) → None_of test (inner_lines m)
none-inner test each clock latch names m =
    none-append test (clock_lines m.clocks ++ latch_lines m.latches) (flat_map cover_lines m.covers)
    (none-append test (clock_lines m.clocks) (latch_lines m.latches) (none-clocks test clock m.clocks) (none-latches test latch m.latches))
    (none-covers test each names m.covers)

-- words of a command in the inner lines
filter-inner : (test : Line → Bool) (m : Model) → None_of test (inner_lines m) → filter test end_line ≡ [] → filter test (inner_lines m ++ end_line) ≡ []
filter-inner test m h e = filter-append test (inner_lines m) end_line ∙ (ap (λ ls. ls ++ filter test end_line) (filter-none test (inner_lines m) h) ∙ e)

read_inputs : (m : Model) → words_of (codes ".inputs") (model_lines m) ≡ m.inputs
read_inputs m =
    ap (λ (ls : List Line). m.inputs ++ flat_map words_after ls) (filter-inner (begins_with (codes ".inputs")) m (none-inner (begins_with (codes ".inputs")) (not_first (codes "inputs")) (λ ws. refl) (λ ws. refl) (λ ws. refl) m) refl)
    ∙ append-nil m.inputs

read_outputs : (m : Model) → words_of (codes ".outputs") (model_lines m) ≡ m.outputs
read_outputs m =
    ap (λ (ls : List Line). m.outputs ++ flat_map words_after ls) (filter-inner (begins_with (codes ".outputs")) m (none-inner (begins_with (codes ".outputs")) (not_first (codes "outputs")) (λ ws. refl) (λ ws. refl) (λ ws. refl) m) refl)
    ∙ append-nil m.outputs

clock_words : (xs : List Word) → flat_map words_after (filter (begins_with (codes ".clock")) (clock_lines xs)) ≡ xs
clock_words [] = refl
clock_words (x ∷ xs) = append-nil (x ∷ xs)

read_clocks : (m : Model) → words_of (codes ".clock") (model_lines m) ≡ m.clocks
read_clocks m =
    let test = begins_with (codes ".clock") in
    let clocks = clock_lines m.clocks in
    let latches = latch_lines m.latches in
    let covers = flat_map cover_lines m.covers in
    let no_latch : filter test latches ≡ [] = filter-none test latches (none-latches test (λ ws. refl) m.latches) in
    let no_cover : filter test covers ≡ [] = filter-none test covers (none-covers test (not_first (codes "clock")) (λ ws. refl) m.covers) in
    let found : filter test (((clocks ++ latches) ++ covers) ++ end_line) ≡ filter test clocks =
    filter-append test ((clocks ++ latches) ++ covers) end_line
    ∙ (append-nil (filter test ((clocks ++ latches) ++ covers))
    ∙ (filter-append test (clocks ++ latches) covers
    ∙ (ap (λ ls. filter test (clocks ++ latches) ++ ls) no_cover
    ∙ (append-nil (filter test (clocks ++ latches))
    ∙ (filter-append test clocks latches ∙ (ap (λ ls. filter test clocks ++ ls) no_latch ∙ append-nil (filter test clocks))))))) in
    ap (flat_map words_after) found ∙ clock_words m.clocks

read_latches : (m : Model) → map words_after (filter (begins_with (codes ".latch")) (model_lines m)) ≡ map latch_words m.latches
read_latches m =
    let test = begins_with (codes ".latch") in
    let clocks = clock_lines m.clocks in
    let latches = latch_lines m.latches in
    let covers = flat_map cover_lines m.covers in
    let no_clock : filter test clocks ≡ [] = filter-none test clocks (none-clocks test (λ ws. refl) m.clocks) in
    let no_cover : filter test covers ≡ [] = filter-none test covers (none-covers test (not_first (codes "latch")) (λ ws. refl) m.covers) in
    let found : filter test (((clocks ++ latches) ++ covers) ++ end_line) ≡ filter test latches =
    filter-append test ((clocks ++ latches) ++ covers) end_line
    ∙ (append-nil (filter test ((clocks ++ latches) ++ covers))
    ∙ (filter-append test (clocks ++ latches) covers
    ∙ (ap (λ ls. filter test (clocks ++ latches) ++ ls) no_cover
    ∙ (append-nil (filter test (clocks ++ latches))
    ∙ (filter-append test clocks latches ∙ ap (λ ls. ls ++ filter test latches) no_clock))))) in
    ap (map words_after) found ∙ filter-latches m.latches

read_covers : (m : Model) → names_lines (model_lines m) ≡ map cover_words m.covers
read_covers m =
    let test = begins_with (codes ".names") in
    let clocks = clock_lines m.clocks in
    let latches = latch_lines m.latches in
    let covers = flat_map cover_lines m.covers in
    ap names_lines (append_assoc (clocks ++ latches) covers end_line)
    ∙ (names-skip (clocks ++ latches) (covers ++ end_line) (none-append test clocks latches (none-clocks test (λ ws. refl) m.clocks) (none-latches test (λ ws. refl) m.latches))
    ∙ names-covers m.covers)

-- what stands before `.end`
front_lines : (m : Model) → before_end (model_lines m) ≡ (codes ".model" ∷ m.name ∷ []) ∷ (codes ".inputs" ∷ m.inputs) ∷ (codes ".outputs" ∷ m.outputs) ∷ inner_lines m
front_lines m =
    let test = begins_with (codes ".end") in
    let inner : before test (inner_lines m ++ end_line) ≡ inner_lines m = before-stop test (inner_lines m) end_line refl (none-inner test (not_first (codes "end")) (λ ws. refl) (λ ws. refl) (λ ws. refl) m) in
    ap (λ (ls : List Line). (codes ".model" ∷ m.name ∷ []) ∷ (codes ".inputs" ∷ m.inputs) ∷ (codes ".outputs" ∷ m.outputs) ∷ ls) inner

read_commands : (m : Model) → follow false (body_of (model_lines m)) ≡ true
read_commands m =
    let test = begins_with (codes ".end") in
    let inner : before test (inner_lines m ++ end_line) ≡ inner_lines m = before-stop test (inner_lines m) end_line refl (none-inner test (not_first (codes "end")) (λ ws. refl) (λ ws. refl) (λ ws. refl) m) in
    ap (follow false) inner
    ∙ (ap (follow false) (append_assoc (clock_lines m.clocks) (latch_lines m.latches) (flat_map cover_lines m.covers))
    ∙ follow-clocks false m.clocks (latch_lines m.latches ++ flat_map cover_lines m.covers)
    (λ b. follow-latches b m.latches (flat_map cover_lines m.covers) (λ b. follow-covers b m.covers)))

pub model_lines_read : (m : Model) → IsWellFormed m → IsRanked m → Reads (model_lines m) m
model_lines_read m good ranked = record {
  first = ((codes ".inputs" ∷ m.inputs) ∷ (codes ".outputs" ∷ m.outputs) ∷ (inner_lines m ++ end_line), refl);
  ending = inr (ap (λ (ls : List Line). ls ++ end_line) (sym (front_lines m)));
  commands = read_commands m;
  inputs = read_inputs m;
  outputs = read_outputs m;
  clocks = read_clocks m;
  latches = read_latches m;
  covers = read_covers m;
  well_formed = good;
  ranked = ranked;
}
