-- How often a name is used in each role, by the lists of the model.
use Rattle.std.proofs.Common.{◌≡◌, ◌+◌, ℕ, Bool, true, false, List, [], ◌∷◌, ◌++◌, map, filter, refl, ap, sym, subst, ◌∙◌, arith}
use Rattle.std.specs.Prelude.{IfSome, codes, if◌then◌else◌, Option, None, Some}
use Rattle.std.specs.List.{cons_option, filter_map, flat_map}
use Rattle.rm_model.specs.Words.{is_word, kind_word, literal_byte}
use Rattle.rm_model.specs.Value.{control_of}
use Rattle.rm_model.specs.declared.parts.Literal.{Literal}
use Rattle.rm_model.specs.declared.parts.Literal.TheVariants.{Zero, One, Any}
use Rattle.rm_model.specs.declared.parts.Timing.{Timing}
use Rattle.rm_model.specs.declared.parts.Cover.{Cover}
use Rattle.rm_model.specs.declared.parts.Latch.{Latch}
use Rattle.blif_lines.specs.Layout.{Spot}
use Rattle.blif_format.specs.Text.{Line, control_word, init_words, latch_words, on_word, row_words, timing_words}
use Rattle.blif_format.specs.Inner.Text.{timing_control}
use Rattle.blif_format.specs.Grammar.{begins_with, is_dotted, words_after, words_of}
use Rattle.blif_format.specs.Uses.{Use, all_are, in_parts, latch_parts, names_parts, use_of, uses_of}
use Rattle.blif_format.specs.declared.words.Role.{Role}
use Rattle.blif_format.specs.declared.words.Role.TheVariants.{Input, ClockInput, Output, CoverInput, CoverOutput, LatchInput, LatchOutput, Control}
use Rattle.blif_format.specs.declared.words.Part.TheVariants.{Name}
use Rattle.blif_writer.proofs.BodyLaws.{Body, Done, EndLine, ListLine, LatchLine, NamesLine, RowLine, IsInputs, IsOutputs, IsClock, IsGoodLatch, ListWord, Open, Shut, Rows, head_of}
use Rattle.blif_writer.proofs.Counts.{IsSo, NotSo, count, count-append, told}
use Rattle.blif_writer.proofs.LineLaws.{if_false}
use Rattle.blif_writer.proofs.ReadLaws.{not_first, row_undotted}
use Rattle.blif_writer.proofs.SpotLaws.{words}
use Rattle.blif_writer.proofs.UseLaws.{tally, tally-append}
use Rattle.rm_base.proofs.Public.{tail_same}
use Rattle.rm_base.specs.Numbers.{one_if}
use Rattle.rm_base.specs.Words.{Word}
use Rattle.rm_model.proofs.Public.{same_word}

-- a number that counts under a test
abbrev pub part : Bool → ℕ → ℕ
part b n = if b then n else 0

pub part-zero : (b : Bool) → part b 0 ≡ 0
part-zero true = refl
part-zero false = refl

pub part-add : (b : Bool) (m n : ℕ) → part b (m + n) ≡ part b m + part b n
part-add true m n = refl
part-add false m n = refl

pub part-count : (b : Bool) (x : Word) (xs ys : List Word) → part b (count x (xs ++ ys)) ≡ part b (count x xs) + part b (count x ys)
part-count b x xs ys = ap (part b) (count-append x xs ys) ∙ part-add b (count x xs) (count x ys)

pub part-cons : (b : Bool) (x y : Word) (ys : List Word) → part b (count x (y ∷ ys)) ≡ part b (one_if (is_word x y)) + part b (count x ys)
part-cons b x y ys = part-add b (one_if (is_word x y)) (count x ys)

abbrev pub uses : List (List Spot) → List Use
uses ts = flat_map uses_of ts

-- what the model's lists say of a name
abbrev pub by_lists : (Role → Bool) → Word → List Line → List Latch → List Cover → ℕ
by_lists test x lines ls cs =
    part (test Input) (count x (words_of (codes ".inputs") lines)) + (part (test ClockInput) (count x (words_of (codes ".clock") lines))
    + (part (test Output) (count x (words_of (codes ".outputs") lines)) + (part (test LatchInput) (count x (map (λ (l : Latch). l.input) ls))
    + (part (test LatchOutput) (count x (map (λ (l : Latch). l.output) ls)) + (part (test Control) (count x (filter_map control_of ls))
    + (part (test CoverInput) (count x (flat_map (λ (c : Cover). c.inputs) cs)) + part (test CoverOutput) (count x (map (λ (c : Cover). c.output) cs))))))))

-- the part of it that no list line changes
abbrev others_of : (Role → Bool) → Word → List Latch → List Cover → ℕ
others_of test x ls cs =
    part (test LatchInput) (count x (map (λ (l : Latch). l.input) ls))
    + (part (test LatchOutput) (count x (map (λ (l : Latch). l.output) ls)) + (part (test Control) (count x (filter_map control_of ls))
    + (part (test CoverInput) (count x (flat_map (λ (c : Cover). c.inputs) cs)) + part (test CoverOutput) (count x (map (λ (c : Cover). c.output) cs)))))

nothing_agrees : (test : Role → Bool) (x : Word) → 0 ≡ by_lists test x [] [] []
nothing_agrees test x = omega (arith, part-zero (test Input), part-zero (test ClockInput), part-zero (test Output), part-zero (test LatchInput), part-zero (test LatchOutput), part-zero (test Control), part-zero (test CoverInput), part-zero (test CoverOutput))

-- a word at the place of another
abbrev pub with_word : Spot → Word → Spot
with_word s w = record { word = w; start = s.start; place = s.place }

-- WORDS OF A LINE

pub record Peeled (ss : List Spot) (a : Word) (others : List Word) : Type 0 where
  pub first : Spot
  pub rest : List Spot
  pub whole : ss ≡ first ∷ rest
  pub word : first.word ≡ a
  pub words_left : words rest ≡ others

pub peel : (ss : List Spot) (a : Word) (others : List Word) → words ss ≡ a ∷ others → Peeled ss a others
peel [] a others e = absurd (cc (e))
peel (s ∷ ss) a others e = record { first = s; rest = ss; whole = refl; word = head_of e; words_left = tail_same e }

pub no_more : (ss : List Spot) → words ss ≡ [] → ss ≡ []
no_more [] e = refl
no_more (s ∷ ss) e = absurd (cc (e))

-- USES OF A LINE

list_uses : (role : Role) → ((s : Spot) → use_of (Name role, s) ≡ Some (record { role = role; name = s.word; place = s.place })) → (test : Role → Bool) (x : Word) (ss : List Spot) → tally test x (filter_map use_of (all_are (Name role) ss)) ≡ part (test role) (count x (words ss))
list_uses role plain test x [] = sym (part-zero (test role))
list_uses role plain test x (s ∷ ss) =
    let rest = list_uses role plain test x ss in
    ap (λ (o : Option Use). tally test x (cons_option o (filter_map use_of (all_are (Name role) ss)))) (plain s)
    ∙ (ap (λ n. part (test role) (one_if (is_word x s.word)) + n) rest ∙ sym (part-cons (test role) x s.word (words ss)))

names_uses : (test : Role → Bool) (x : Word) (ss : List Spot) (xs : List Word) (y : Word) → words ss ≡ xs ++ y ∷ [] → tally test x (filter_map use_of (names_parts ss)) ≡ part (test CoverInput) (count x xs) + part (test CoverOutput) (one_if (is_word x y))
names_uses test x [] [] y e = absurd (cc (e))
names_uses test x [] (a ∷ xs) y e = absurd (cc (e))
names_uses test x (s ∷ []) [] y e = let same : s.word ≡ y = head_of e in rw same (omega (arith, part-zero (test CoverInput)))
names_uses test x (s ∷ []) (a ∷ []) y e = absurd (cc (tail_same e))
names_uses test x (s ∷ []) (a ∷ b ∷ xs) y e = absurd (cc (tail_same e))
names_uses test x (s ∷ t ∷ ss) [] y e = absurd (cc (tail_same e))
names_uses test x (s ∷ t ∷ ss) (a ∷ xs) y e =
    let same : s.word ≡ a = head_of e in
    let rest = names_uses test x (t ∷ ss) xs y (tail_same e) in
    rw same (omega (arith, rest, part-cons (test CoverInput) x a xs))

-- the uses of a latch's words
abbrev latch_tally : (Role → Bool) → Word → Word → Word → Option Word → ℕ
latch_tally test x input output control =
    part (test LatchInput) (one_if (is_word x input)) + (part (test LatchOutput) (one_if (is_word x output)) + part (test Control) (count x (cons_option control [])))

control_use : (test : Role → Bool) (x : Word) (s : Spot) (control : Option Word) (more : List Use) → s.word ≡ control_word control → IfSome control (λ w. w ≡ codes "NIL" → ⊥) → tally test x (cons_option (use_of (Name Control, s)) more) ≡ part (test Control) (count x (cons_option control [])) + tally test x more
control_use test x s None more e good = rw e (omega (arith, part-zero (test Control)))
control_use test x s (Some w) more e good =
    let other : is_word (codes "NIL") w ≡ false = elim (told (is_word (codes "NIL") w)) [ IsSo t ↦ absurd (good (sym (same_word (codes "NIL") w t))) | NotSo t ↦ t ] in
    rw (e, other) (omega (arith, part-cons (test Control) x w [], part-zero (test Control)))

abbrev uses_by_latch : List Spot → List Use
uses_by_latch ss = filter_map use_of (in_parts (latch_parts ss) ss)

latch_uses : (test : Role → Bool) (x : Word) (ss : List Spot) (input output : Word) (timing : Option Timing) (init : Option ℕ) → words ss ≡ (input ∷ output ∷ timing_words timing) ++ init_words init → IfSome (timing_control timing) (λ w. w ≡ codes "NIL" → ⊥) → tally test x (uses_by_latch ss) ≡ latch_tally test x input output (timing_control timing)
latch_uses test x ss input output None None e good =
    let a = peel ss input (output ∷ []) e in
    let b = peel a.rest output [] a.words_left in
    let whole : ss ≡ a.first ∷ b.first ∷ [] = a.whole ∙ ap (λ (r : List Spot). a.first ∷ r) (b.whole ∙ ap (λ (r : List Spot). b.first ∷ r) (no_more b.rest b.words_left)) in
    ap (λ (r : List Spot). tally test x (uses_by_latch r)) whole ∙ (rw (a.word, b.word) (omega (arith, part-zero (test Control))))
latch_uses test x ss input output None (Some n) e good =
    let a = peel ss input (output ∷ init_words (Some n)) e in
    let b = peel a.rest output (init_words (Some n)) a.words_left in
    let c = peel b.rest ((48 + n) ∷ []) [] b.words_left in
    let whole : ss ≡ a.first ∷ b.first ∷ c.first ∷ [] =
    a.whole ∙ ap (λ (r : List Spot). a.first ∷ r) (b.whole ∙ ap (λ (r : List Spot). b.first ∷ r) (c.whole ∙ ap (λ (r : List Spot). c.first ∷ r) (no_more c.rest c.words_left))) in
    ap (λ (r : List Spot). tally test x (uses_by_latch r)) whole ∙ (rw (a.word, b.word) (omega (arith, part-zero (test Control))))
latch_uses test x ss input output (Some t) None e good =
    let a = peel ss input (output ∷ timing_words (Some t)) e in
    let b = peel a.rest output (timing_words (Some t)) a.words_left in
    let c = peel b.rest (kind_word t.kind) (control_word t.control ∷ []) b.words_left in
    let d = peel c.rest (control_word t.control) [] c.words_left in
    let whole : ss ≡ a.first ∷ b.first ∷ c.first ∷ d.first ∷ [] =
    a.whole ∙ ap (λ (r : List Spot). a.first ∷ r) (b.whole ∙ ap (λ (r : List Spot). b.first ∷ r) (c.whole ∙ ap (λ (r : List Spot). c.first ∷ r) (d.whole ∙ ap (λ (r : List Spot). d.first ∷ r) (no_more d.rest d.words_left)))) in
    let control = control_use test x d.first t.control [] d.word good in
    ap (λ (r : List Spot). tally test x (uses_by_latch r)) whole ∙ (rw (a.word, b.word) (omega (arith, control)))
latch_uses test x ss input output (Some t) (Some n) e good =
    let a = peel ss input (output ∷ timing_words (Some t) ++ init_words (Some n)) e in
    let b = peel a.rest output (timing_words (Some t) ++ init_words (Some n)) a.words_left in
    let c = peel b.rest (kind_word t.kind) (control_word t.control ∷ init_words (Some n)) b.words_left in
    let d = peel c.rest (control_word t.control) (init_words (Some n)) c.words_left in
    let f = peel d.rest ((48 + n) ∷ []) [] d.words_left in
    let whole : ss ≡ a.first ∷ b.first ∷ c.first ∷ d.first ∷ f.first ∷ [] =
    a.whole ∙ ap (λ (r : List Spot). a.first ∷ r) (b.whole ∙ ap (λ (r : List Spot). b.first ∷ r) (c.whole ∙ ap (λ (r : List Spot). c.first ∷ r) (d.whole ∙ ap (λ (r : List Spot). d.first ∷ r) (f.whole ∙ ap (λ (r : List Spot). f.first ∷ r) (no_more f.rest f.words_left))))) in
    let control = control_use test x d.first t.control [] d.word good in
    ap (λ (r : List Spot). tally test x (uses_by_latch r)) whole ∙ (rw (a.word, b.word) (omega (arith, control)))

-- ROWS

-- the first word of a row
abbrev pub row_first : Bool → List Literal → Word
row_first on [] = on_word on
row_first on (l ∷ ls) = map literal_byte (l ∷ ls)

pub row_word : (s : Spot) (ss : List Spot) (on : Bool) (r : List Literal) → words (s ∷ ss) ≡ row_words on r → s.word ≡ row_first on r
row_word s ss on [] e = head_of e
row_word s ss on (l ∷ ls) e = head_of e

row_uses_none : (s : Spot) (ss : List Spot) (on : Bool) (r : List Literal) → uses_of (with_word s (row_first on r) ∷ ss) ≡ []
row_uses_none s ss true [] = refl
row_uses_none s ss false [] = refl
row_uses_none s ss on (Zero ∷ ls) = refl
row_uses_none s ss on (One ∷ ls) = refl
row_uses_none s ss on (Any ∷ ls) = refl

pub row_uses : (s : Spot) (ss : List Spot) (on : Bool) (r : List Literal) → words (s ∷ ss) ≡ row_words on r → uses_of (s ∷ ss) ≡ []
row_uses s ss on r e =
    let P : Word → Type 0 = λ w. uses_of (with_word s w ∷ ss) ≡ [] in
    subst P (sym (row_word s ss on r e)) (row_uses_none s ss on r)

row_skipped : (word : Word) (l : Line) (lines : List Line) → is_dotted l ≡ false → words_of (46 ∷ word) (l ∷ lines) ≡ words_of (46 ∷ word) lines
row_skipped word l lines e = ap (flat_map words_after) (if_false (l ∷ filter (begins_with (46 ∷ word)) lines) (filter (begins_with (46 ∷ word)) lines) (not_first word l e))

-- LINE BY LINE

abbrev Agrees : (Role → Bool) → Word → List (List Spot) → List Latch → List Cover → Type 0
Agrees test x ts ls cs = tally test x (uses ts) ≡ by_lists test x (map words ts) ls cs

inputs_agree : (test : Role → Bool) (x : Word) (s : Spot) (ss : List Spot) (ts : List (List Spot)) (ls : List Latch) (cs : List Cover) → Agrees test x ts ls cs → Agrees test x ((with_word s (codes ".inputs") ∷ ss) ∷ ts) ls cs
inputs_agree test x s ss ts ls cs rest =
    let here = list_uses Input (λ s. refl) test x ss in
    let more = part-count (test Input) x (words ss) (words_of (codes ".inputs") (map words ts)) in
    tally-append test x (filter_map use_of (all_are (Name Input) ss)) (uses ts) ∙ omega arith

clocks_agree : (test : Role → Bool) (x : Word) (s : Spot) (ss : List Spot) (ts : List (List Spot)) (ls : List Latch) (cs : List Cover) → Agrees test x ts ls cs → Agrees test x ((with_word s (codes ".clock") ∷ ss) ∷ ts) ls cs
clocks_agree test x s ss ts ls cs rest =
    let here = list_uses ClockInput (λ s. refl) test x ss in
    let more = part-count (test ClockInput) x (words ss) (words_of (codes ".clock") (map words ts)) in
    tally-append test x (filter_map use_of (all_are (Name ClockInput) ss)) (uses ts) ∙ omega arith

outputs_agree : (test : Role → Bool) (x : Word) (s : Spot) (ss : List Spot) (ts : List (List Spot)) (ls : List Latch) (cs : List Cover) → Agrees test x ts ls cs → Agrees test x ((with_word s (codes ".outputs") ∷ ss) ∷ ts) ls cs
outputs_agree test x s ss ts ls cs rest =
    let here = list_uses Output (λ s. refl) test x ss in
    let more = part-count (test Output) x (words ss) (words_of (codes ".outputs") (map words ts)) in
    tally-append test x (filter_map use_of (all_are (Name Output) ss)) (uses ts) ∙ omega arith

list_agrees : (test : Role → Bool) (x : Word) (s : Spot) (ss : List Spot) (ts : List (List Spot)) (ls : List Latch) (cs : List Cover) → ListWord s.word → Agrees test x ts ls cs → Agrees test x ((s ∷ ss) ∷ ts) ls cs
list_agrees test x s ss ts ls cs (IsInputs e) rest = let P : Word → Type 0 = λ w. Agrees test x ((with_word s w ∷ ss) ∷ ts) ls cs in subst P (sym e) (inputs_agree test x s ss ts ls cs rest)
list_agrees test x s ss ts ls cs (IsOutputs e) rest = let P : Word → Type 0 = λ w. Agrees test x ((with_word s w ∷ ss) ∷ ts) ls cs in subst P (sym e) (outputs_agree test x s ss ts ls cs rest)
list_agrees test x s ss ts ls cs (IsClock e) rest = let P : Word → Type 0 = λ w. Agrees test x ((with_word s w ∷ ss) ∷ ts) ls cs in subst P (sym e) (clocks_agree test x s ss ts ls cs rest)

same_control : (timing : Option Timing) (input output : Word) (init : Option ℕ) → control_of (record { input = input; output = output; timing = timing; init = init }) ≡ timing_control timing
same_control None input output init = refl
same_control (Some t) input output init = refl

count_option : (x : Word) (o : Option Word) (xs : List Word) → count x (cons_option o xs) ≡ count x (cons_option o []) + count x xs
count_option x None xs = omega arith
count_option x (Some y) xs = omega arith

latch_agrees : (test : Role → Bool) (x : Word) (s : Spot) (ss : List Spot) (ts : List (List Spot)) (l : Latch) (ls : List Latch) (cs : List Cover) → words ss ≡ latch_words l → IsGoodLatch l → Agrees test x ts ls cs → Agrees test x ((with_word s (codes ".latch") ∷ ss) ∷ ts) (l ∷ ls) cs
latch_agrees test x s ss ts l ls cs e good rest =
    let control : control_of l ≡ timing_control l.timing = same_control l.timing l.input l.output l.init in
    let named : IfSome (timing_control l.timing) (λ w. w ≡ codes "NIL" → ⊥) = subst (λ (o : Option Word). IfSome o (λ w. w ≡ codes "NIL" → ⊥)) control good.control in
    let here = latch_uses test x ss l.input l.output l.timing l.init e named in
    let inputs = part-cons (test LatchInput) x l.input (map (λ (l : Latch). l.input) ls) in
    let outputs = part-cons (test LatchOutput) x l.output (map (λ (l : Latch). l.output) ls) in
    let controls : part (test Control) (count x (cons_option (control_of l) (filter_map control_of ls))) ≡ part (test Control) (count x (cons_option (timing_control l.timing) [])) + part (test Control) (count x (filter_map control_of ls)) =
    ap (λ (o : Option Word). part (test Control) (count x (cons_option o (filter_map control_of ls)))) control
    ∙ (ap (part (test Control)) (count_option x (timing_control l.timing) (filter_map control_of ls)) ∙ part-add (test Control) _ _) in
    tally-append test x (uses_by_latch ss) (uses ts) ∙ omega arith

names_agree : (test : Role → Bool) (x : Word) (s : Spot) (ss : List Spot) (ts : List (List Spot)) (ls : List Latch) (c : Cover) (cs : List Cover) → words ss ≡ c.inputs ++ c.output ∷ [] → Agrees test x ts ls cs → Agrees test x ((with_word s (codes ".names") ∷ ss) ∷ ts) ls (c ∷ cs)
names_agree test x s ss ts ls c cs e rest =
    let here = names_uses test x ss c.inputs c.output e in
    let inputs = part-count (test CoverInput) x c.inputs (flat_map (λ (c : Cover). c.inputs) cs) in
    let outputs = part-cons (test CoverOutput) x c.output (map (λ (c : Cover). c.output) cs) in
    tally-append test x (filter_map use_of (names_parts ss)) (uses ts) ∙ omega arith

row_agrees : (test : Role → Bool) (x : Word) (s : Spot) (ss : List Spot) (ts : List (List Spot)) (ls : List Latch) (on : Bool) (r : List Literal) (cs : List Cover) → words (s ∷ ss) ≡ row_words on r → Agrees test x ts ls cs → Agrees test x ((s ∷ ss) ∷ ts) ls cs
row_agrees test x s ss ts ls on r cs e rest =
    let dot : is_dotted (words (s ∷ ss)) ≡ false = ap is_dotted e ∙ row_undotted on r in
    let inputs = row_skipped (codes "inputs") (words (s ∷ ss)) (map words ts) dot in
    let clocks = row_skipped (codes "clock") (words (s ∷ ss)) (map words ts) dot in
    let outputs = row_skipped (codes "outputs") (words (s ∷ ss)) (map words ts) dot in
    ap (λ (us : List Use). tally test x (us ++ uses ts)) (row_uses s ss on r e)
    ∙ (rest ∙ by_lists_same test x (map words ts) (words (s ∷ ss) ∷ map words ts) ls cs (sym inputs) (sym clocks) (sym outputs))
  where
    by_lists_same : (test : Role → Bool) (x : Word) (lines others : List Line) (ls : List Latch) (cs : List Cover) → words_of (codes ".inputs") lines ≡ words_of (codes ".inputs") others → words_of (codes ".clock") lines ≡ words_of (codes ".clock") others → words_of (codes ".outputs") lines ≡ words_of (codes ".outputs") others → by_lists test x lines ls cs ≡ by_lists test x others ls cs
    by_lists_same test x lines others ls cs p q r =
        ap (λ (xs : List Word). part (test Input) (count x xs) + (part (test ClockInput) (count x (words_of (codes ".clock") lines)) + (part (test Output) (count x (words_of (codes ".outputs") lines)) + others_of test x ls cs))) p
        ∙ (ap (λ (xs : List Word). part (test Input) (count x (words_of (codes ".inputs") others)) + (part (test ClockInput) (count x xs) + (part (test Output) (count x (words_of (codes ".outputs") lines)) + others_of test x ls cs))) q
        ∙ ap (λ (xs : List Word). part (test Input) (count x (words_of (codes ".inputs") others)) + (part (test ClockInput) (count x (words_of (codes ".clock") others)) + (part (test Output) (count x xs) + others_of test x ls cs))) r)

pub body_agrees : (test : Role → Bool) (x : Word) (p : Open) (ts : List (List Spot)) (ls : List Latch) (cs : List Cover) → Body p ts ls cs → Agrees test x ts ls cs
body_agrees test x p ts ls cs (Done q n) = nothing_agrees test x
body_agrees test x p ts ls cs (EndLine q s e n) = let P : Word → Type 0 = λ w. Agrees test x ((with_word s w ∷ []) ∷ []) [] [] in subst P (sym e) (nothing_agrees test x)
body_agrees test x p ts ls cs (ListLine q s ss us ks ds e n b) = list_agrees test x s ss us ks ds e (body_agrees test x Shut us ks ds b)
body_agrees test x p ts ls cs (LatchLine q s ss us l ks ds e w good n b) =
    let P : Word → Type 0 = λ v. Agrees test x ((with_word s v ∷ ss) ∷ us) (l ∷ ks) ds in
    subst P (sym e) (latch_agrees test x s ss us l ks ds w good (body_agrees test x Shut us ks ds b))
body_agrees test x p ts ls cs (NamesLine q s ss us ks c ds e w n b) =
    let P : Word → Type 0 = λ v. Agrees test x ((with_word s v ∷ ss) ∷ us) ks (c ∷ ds) in
    subst P (sym e) (names_agree test x s ss us ks c ds w (body_agrees test x (Rows c c.rows) us ks ds b))
body_agrees test x p ts ls cs (RowLine s ss us ks c r rs ds w n b) = row_agrees test x s ss us ks c.on r ds w (body_agrees test x (Rows c rs) us ks ds b)
