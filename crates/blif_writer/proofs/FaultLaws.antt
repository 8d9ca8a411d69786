-- A text whose lines say a model has no fault but a limit.
use Rattle.std.proofs.Common.{◌≡◌, ◌+◌, ◌<◌, ◌≤◌, ℕ, Bool, true, false, not, List, [], ◌∷◌, ◌++◌, map, filter, length, refl, ap, sym, subst, ◌∙◌, append_assoc, append-nil, arith}
use Rattle.std.specs.Prelude.{◌↔◌, All, codes, find, is_none, nat_lt, Option, None, Some}
use Rattle.std.specs.List.{cons_option, filter_map, flat_map, list_any, position_or_len}
use Rattle.std.proofs.lemmas.List.Elements.{All-map}
use Rattle.rm_base.specs.declared.numbers.Place.{Place}
use Rattle.rm_model.specs.Words.{is_word}
use Rattle.rm_model.specs.Value.{IsRanked, control_of, is_among, is_cover_output as drives, source_names}
use Rattle.rm_model.specs.WellFormed.{IsWellFormed, driven_names, is_distinct, used_names}
use Rattle.rm_model.specs.Ranks.{first_without_rank, ranks_of}
use Rattle.rm_model.specs.declared.parts.Cover.{Cover}
use Rattle.rm_model.specs.declared.parts.Latch.{Latch}
use Rattle.rm_model.specs.declared.parts.Model.{Model}
use Rattle.blif_lines.specs.Layout.{Spot, layout}
use Rattle.blif_format.specs.Text.{Line}
use Rattle.blif_format.specs.Grammar.{Reads, words_of}
use Rattle.blif_format.specs.Uses.{Use, is_driver, names_in, uses_of, wants_driver, is_clock, is_input, is_output}
use Rattle.blif_format.specs.declared.words.Role.{Role}
use Rattle.blif_format.specs.declared.words.Role.TheVariants.{Input, ClockInput, Output, CoverInput, CoverOutput, LatchInput, LatchOutput, Control}
use Rattle.blif_format.specs.FirstFault.{Said, after_line, bare_model, cover_in, cover_names, first_unranked, is_undriven, lines_fault, nothing_said, rank_fault, said_by, undriven_fault}
use Rattle.blif_format.specs.Laws.{ReadTextsAreFaultless}
use Rattle.blif_format.specs.declared.refusal.Quantity.TheVariants.{Name as NameLength}
use Rattle.blif_writer.proofs.BodyLaws.{Body, Done, EndLine, ListLine, LatchLine, NamesLine, RowLine, IsInputs, IsOutputs, IsClock, IsLeft, ListWord, Open, Shut, Rows, body_from, ending_tail, head_of}
use Rattle.blif_writer.proofs.Counts.{IsSo, NotSo, all_count, count, count-append, count_absent, count_fresh, count_fresh_least, count_present, distinct_count, eq_word, present_count, told}
use Rattle.blif_writer.proofs.LineLaws.{and_false, if_false}
use Rattle.blif_writer.proofs.SpotLaws.{cover_at, covers-spots, lines-spots, lines_fault-spots, said_after, said_by-spots, spots_fault, spots_in, words}
use Rattle.blif_writer.proofs.TallyLaws.{body_agrees, no_more, part, peel, row_word, uses, with_word}
use Rattle.blif_writer.proofs.UseLaws.{IsClear, IsFine, is_cover_output, is_latch_output, limit_fine, no_refusal, one, or_else_fine, tally, tally-append}
use Rattle.blif_writer.proofs.WalkLaws.{IsRowWord, body_goes, row_word_is}
use Rattle.rm_base.proofs.Public.{tail_same}
use Rattle.rm_base.specs.Numbers.{one_if}
use Rattle.rm_base.specs.Words.{Word}
use Rattle.rm_model.proofs.Public.{distinct-right, position-none}

-- COUNTS

record IsOnce (m : Model) (x : Word) : Type 0 where
  inputs : count x m.inputs + (count x (map (λ (l : Latch). l.output) m.latches) + count x (map (λ (c : Cover). c.output) m.covers)) ≤ 1
  clocks : count x m.clocks + (count x (map (λ (l : Latch). l.output) m.latches) + count x (map (λ (c : Cover). c.output) m.covers)) ≤ 1
  outputs : count x m.outputs ≤ 1

-- a name's drivers, by kind
count_driven : (m : Model) (x : Word) → count x (driven_names m) ≡ ((count x m.inputs + count x (filter (λ y. not (is_among m.inputs y)) m.clocks)) + count x (map (λ (l : Latch). l.output) m.latches)) + count x (map (λ (c : Cover). c.output) m.covers)
count_driven m x =
    let fresh = filter (λ y. not (is_among m.inputs y)) m.clocks in
    let latches = map (λ (l : Latch). l.output) m.latches in
    omega (arith, count-append x (source_names m) (map (λ (c : Cover). c.output) m.covers), count-append x (m.inputs ++ fresh) latches, count-append x m.inputs fresh)

once : (m : Model) → IsWellFormed m → (x : Word) → IsOnce m x
once m good x =
    let all = distinct_count (driven_names m) good.driven_once x in
    let parts = count_driven m x in
    let clock = distinct_count m.clocks good.clocks_once x in
    let output = distinct_count m.outputs good.outputs_once x in
    record {
      inputs = omega arith;
      clocks = elim (told (is_among m.inputs x)) [
        | IsSo t ↦ let some = count_present x m.inputs t in omega arith
        | NotSo t ↦ let none = count_absent x m.inputs t in let fresh = count_fresh x m.inputs m.clocks none in omega arith
      ];
      outputs = output;
    }

count_used : (m : Model) (x : Word) → count x (used_names m) ≡ ((count x m.outputs + count x (flat_map (λ (c : Cover). c.inputs) m.covers)) + count x (map (λ (l : Latch). l.input) m.latches)) + count x (filter_map control_of m.latches)
count_used m x =
    let inputs = flat_map (λ (c : Cover). c.inputs) m.covers in
    let latches = map (λ (l : Latch). l.input) m.latches in
    omega (arith, count-append x ((m.outputs ++ inputs) ++ latches) (filter_map control_of m.latches), count-append x (m.outputs ++ inputs) latches, count-append x m.outputs inputs)

-- how often a name is used, by the lists of the model
abbrev with_lists : (Role → Bool) → Word → List Word → List Word → List Word → Model → ℕ
with_lists test x inputs clocks outputs m =
    part (test Input) (count x inputs) + (part (test ClockInput) (count x clocks)
    + (part (test Output) (count x outputs) + (part (test LatchInput) (count x (map (λ (l : Latch). l.input) m.latches))
    + (part (test LatchOutput) (count x (map (λ (l : Latch). l.output) m.latches)) + (part (test Control) (count x (filter_map control_of m.latches))
    + (part (test CoverInput) (count x (flat_map (λ (c : Cover). c.inputs) m.covers)) + part (test CoverOutput) (count x (map (λ (c : Cover). c.output) m.covers))))))))

record AreUsesOf (m : Model) (us : List Use) : Type 0 where
  agree : (test : Role → Bool) (x : Word) → tally test x us ≡ with_lists test x m.inputs m.clocks m.outputs m

uses_clear : (m : Model) (us : List Use) → IsWellFormed m → AreUsesOf m us → IsClear us
uses_clear m us good h = record {
  inputs = λ x. let o = once m good x in omega (arith, o.inputs, h.agree is_input x, h.agree is_latch_output x, h.agree is_cover_output x);
  clocks = λ x. let o = once m good x in omega (arith, o.clocks, h.agree is_clock x, h.agree is_latch_output x, h.agree is_cover_output x);
  outputs = λ x. let o = once m good x in omega (arith, o.outputs, h.agree is_output x);
}

-- NAMES WITHOUT A DRIVER

tally-names : (test : Role → Bool) (x : Word) (us : List Use) → tally test x us ≡ count x (names_in test us)
tally-names test x [] = refl
tally-names test x (u ∷ us) =
    let rest : tally test x us ≡ count x (names_in test us) = tally-names test x us in
    elim (told (test u.role)) [
      | IsSo t ↦ rw t (omega arith)
      | NotSo t ↦ rw t (omega arith)
    ]

driven_used : (m : Model) (us : List Use) (x : Word) → IsWellFormed m → AreUsesOf m us → 1 ≤ tally wants_driver x us → is_among (names_in is_driver us) x ≡ true
driven_used m us x good h some =
    let used : 1 ≤ count x (used_names m) = omega (arith, h.agree wants_driver x, count_used m x) in
    let driven : is_among (driven_names m) x ≡ true = all_count (is_among (driven_names m)) x (used_names m) good.all_driven used in
    let present : 1 ≤ count x (driven_names m) = count_present x (driven_names m) driven in
    let fresh = count_fresh_least x m.inputs m.clocks in
    let named : 1 ≤ count x (names_in is_driver us) = omega (arith, h.agree is_driver x, count_driven m x, tally-names is_driver x us) in
    present_count x (names_in is_driver us) named

one_self : (test : Role → Bool) (r : Role) (x : Word) → test r ≡ true → one test x r x ≡ 1
one_self test r x e = rw e (ap one_if (eq_word x x refl))

none_undriven : (m : Model) (all : List Use) → IsWellFormed m → AreUsesOf m all → (had us : List Use) → had ++ us ≡ all → find (is_undriven all) us ≡ None
none_undriven m all good h had [] e = refl
none_undriven m all good h had (u ∷ us) e =
    let rest = none_undriven m all good h (had ++ u ∷ []) us (append_assoc had (u ∷ []) us ∙ e) in
    let fine : is_undriven all u ≡ false = elim (told (wants_driver u.role)) [
      | IsSo t ↦
          let whole : tally wants_driver u.name all ≡ tally wants_driver u.name had + (one wants_driver u.name u.role u.name + tally wants_driver u.name us) =
          ap (tally wants_driver u.name) (sym e) ∙ tally-append wants_driver u.name had (u ∷ us) in
          let here = one_self wants_driver u.role u.name t in
          let driven : is_among (names_in is_driver all) u.name ≡ true = driven_used m all u.name good h (omega arith) in
          rw driven (and_false (wants_driver u.role))
      | NotSo t ↦ rw t refl
    ] in
    if_false (Some u) (find (is_undriven all) us) fine ∙ rest

no_undriven : (us : List Use) → find (is_undriven us) us ≡ None → IsFine (undriven_fault us)
no_undriven us e = rw (e, undriven_fault) no_refusal

-- RANKS

abbrev bare : Cover → Cover
bare c = record { inputs = c.inputs; output = c.output; on = true; rows = [] }

cover_names-push : (xs : List Word) (y : Word) → cover_names (xs ++ y ∷ []) ≡ record { inputs = xs; output = y; on = true; rows = [] }
cover_names-push [] y = refl
cover_names-push (a ∷ []) y = refl
cover_names-push (a ∷ b ∷ xs) y = ap (λ (c : Cover). let v : Cover = record c { inputs = a ∷ c.inputs } in v) (cover_names-push (b ∷ xs) y)

abbrev SayCovers : List (List Spot) → List Cover → Type 0
SayCovers ts cs = map (λ (e : Place × Cover). e.1) (filter_map cover_at ts) ≡ map bare cs

list_says : (s : Spot) (ss : List Spot) (ts : List (List Spot)) (cs : List Cover) → ListWord s.word → SayCovers ts cs → SayCovers ((s ∷ ss) ∷ ts) cs
list_says s ss ts cs (IsInputs e) h = let P : Word → Type 0 = λ w. SayCovers ((with_word s w ∷ ss) ∷ ts) cs in subst P (sym e) h
list_says s ss ts cs (IsOutputs e) h = let P : Word → Type 0 = λ w. SayCovers ((with_word s w ∷ ss) ∷ ts) cs in subst P (sym e) h
list_says s ss ts cs (IsClock e) h = let P : Word → Type 0 = λ w. SayCovers ((with_word s w ∷ ss) ∷ ts) cs in subst P (sym e) h

body_says : (p : Open) (ts : List (List Spot)) (ls : List Latch) (cs : List Cover) → Body p ts ls cs → SayCovers ts cs
body_says p ts ls cs (Done q n) = refl
body_says p ts ls cs (EndLine q s e n) = let P : Word → Type 0 = λ w. SayCovers ((with_word s w ∷ []) ∷ []) [] in subst P (sym e) refl
body_says p ts ls cs (ListLine q s ss us ks ds e n b) = list_says s ss us ds e (body_says Shut us ks ds b)
body_says p ts ls cs (LatchLine q s ss us l ks ds e w good n b) = let P : Word → Type 0 = λ v. SayCovers ((with_word s v ∷ ss) ∷ us) ds in subst P (sym e) (body_says Shut us ks ds b)
body_says p ts ls cs (NamesLine q s ss us ks c ds e w n b) =
    let P : Word → Type 0 = λ v. SayCovers ((with_word s v ∷ ss) ∷ us) (c ∷ ds) in
    let here : cover_names (words ss) ≡ bare c = ap cover_names w ∙ cover_names-push c.inputs c.output in
    let rest = body_says (Rows c c.rows) us ks ds b in
    subst P (sym e) (ap (λ (d : Cover). d ∷ map (λ (e : Place × Cover). e.1) (filter_map cover_at us)) here ∙ ap (λ (es : List Cover). bare c ∷ es) rest)
body_says p ts ls cs (RowLine s ss us ks c r rs ds w n b) =
    let is : IsRowWord s.word = subst IsRowWord (sym (row_word s ss c.on r w)) (row_word_is c.on r) in
    let none : cover_at (s ∷ ss) ≡ None = rw is.no_names refl in
    ap (λ (o : Option (Place × Cover)). map (λ (e : Place × Cover). e.1) (cons_option o (filter_map cover_at us))) none ∙ body_says (Rows c rs) us ks ds b

bare_drives : (x : Word) (cs : List Cover) → list_any (λ (c : Cover). is_word x c.output) (map bare cs) ≡ list_any (λ (c : Cover). is_word x c.output) cs
bare_drives x [] = refl
bare_drives x (c ∷ cs) = rw (bare_drives x cs) refl

bare_ranked : (m : Model) → IsRanked m → IsRanked (bare_model (map bare m.covers))
bare_ranked m ranked =
    let rank = ranked.0 in
    let under = bare_model (map bare m.covers) in (
      rank,
      All-map (λ (c : Cover). All (λ x. drives under x ≡ true → rank x < rank c.output) c.inputs) bare m.covers
          (λ k d h j y i same. ranked.1 k d h j y i (sym (bare_drives _ m.covers) ∙ same)),
    )

-- a list in which no rank is missing
all_ranked : (ps : List Place) (ranks : List (Option ℕ)) → length ranks ≤ position_or_len is_none ranks → first_unranked ps ranks ≡ None
all_ranked [] ranks h = refl
all_ranked (p ∷ ps) [] h = refl
all_ranked (p ∷ ps) (None ∷ ranks) h = absurd (omega arith)
all_ranked (p ∷ ps) (Some n ∷ ranks) h = all_ranked ps ranks (omega arith)

bare_outputs : (cs : List Cover) → map (λ (c : Cover). c.output) (map bare cs) ≡ map (λ (c : Cover). c.output) cs
bare_outputs [] = refl
bare_outputs (c ∷ cs) = ap (λ xs. c.output ∷ xs) (bare_outputs cs)

-- ranked models have a rank for each cover
abbrev pub RanksExist : Type 0
RanksExist = (m : Model) → is_distinct (driven_names m) ≡ true → (IsRanked m ↔ (first_without_rank m ≡ None))

no_unranked : RanksExist → (m : Model) (found : List (Place × Cover)) → IsWellFormed m → IsRanked m → map (λ (e : Place × Cover). e.1) found ≡ map bare m.covers → rank_fault found ≡ None
no_unranked exist m found good ranked e =
    let under = bare_model (map bare m.covers) in
    let distinct : is_distinct (driven_names under) ≡ true = ap is_distinct (bare_outputs m.covers) ∙ distinct-right (source_names m) (map (λ (c : Cover). c.output) m.covers) good.driven_once in
    let none : first_without_rank under ≡ None = (exist under distinct).0 (bare_ranked m ranked) in
    ap (λ (cs : List Cover). first_unranked (map (λ (e : Place × Cover). e.0) found) (ranks_of (bare_model cs))) e
    ∙ all_ranked (map (λ (e : Place × Cover). e.0) found) (ranks_of under) (position-none (position_or_len is_none (ranks_of under)) (length (ranks_of under)) none)

-- THE FIRST LINE AND THOSE BEHIND IT

left_behind : (m : Model) (body : List Line) → Reads ((codes ".model" ∷ m.name ∷ []) ∷ body) m → IsLeft Shut body m.latches m.covers
left_behind m body h = record {
  ending = ending_tail (codes ".model" ∷ m.name ∷ []) body h.ending;
  commands = h.commands;
  rows = tt;
  latches = h.latches;
  covers = h.covers;
  good_latches = λ k d lt. record { init = h.well_formed.inits k d lt; control = h.well_formed.controls k d lt };
  good_covers = h.well_formed.covers;
}

record IsText (m : Model) (ts : List (List Spot)) : Type 0 where
  line : Spot
  name : Spot
  behind : List (List Spot)
  whole : ts ≡ (with_word line (codes ".model") ∷ name ∷ []) ∷ behind
  body : Body Shut behind m.latches m.covers
  uses_of_it : AreUsesOf m (uses behind)

uses_behind : (m : Model) (ts : List (List Spot)) → Reads ((codes ".model" ∷ m.name ∷ []) ∷ map words ts) m → Body Shut ts m.latches m.covers → AreUsesOf m (uses ts)
uses_behind m ts h b = record {
  agree = λ test x. body_agrees test x Shut ts m.latches m.covers b
      ∙ (ap (λ (xs : List Word). with_lists test x xs (words_of (codes ".clock") (map words ts)) (words_of (codes ".outputs") (map words ts)) m) h.inputs
      ∙ (ap (λ (xs : List Word). with_lists test x m.inputs xs (words_of (codes ".outputs") (map words ts)) m) h.clocks
      ∙ ap (λ (xs : List Word). with_lists test x m.inputs m.clocks xs m) h.outputs));
}

text_of_spots : (m : Model) (ts : List (List Spot)) → Reads (map words ts) m → IsText m ts
text_of_spots m [] h = absurd (cc (h.first.1))
text_of_spots m ([] ∷ ts) h = absurd (cc (head_of h.first.1))
text_of_spots m ((s ∷ ss) ∷ ts) h =
    let line : words (s ∷ ss) ≡ codes ".model" ∷ m.name ∷ [] = head_of h.first.1 in
    let word : s.word ≡ codes ".model" = head_of line in
    let name = peel ss m.name [] (tail_same line) in
    let alone : ss ≡ name.first ∷ [] = name.whole ∙ ap (λ (r : List Spot). name.first ∷ r) (no_more name.rest name.words_left) in
    let reads : Reads ((codes ".model" ∷ m.name ∷ []) ∷ map words ts) m = subst (λ (l : Line). Reads (l ∷ map words ts) m) line h in
    let body = body_from ts Shut m.latches m.covers (left_behind m (map words ts) reads) in
    record {
      line = s;
      name = name.first;
      behind = ts;
      whole = ap (λ (w : Word). (with_word s w ∷ ss) ∷ ts) word ∙ ap (λ (r : List Spot). (with_word s (codes ".model") ∷ r) ∷ ts) alone;
      body = body;
      uses_of_it = uses_behind m ts reads body;
    }

-- the uses of lines, told in order
kept_uses : (said : Said) (t : List Spot) → (after_line said t).uses ≡ said.uses ++ uses_of t
kept_uses said [] = sym (append-nil said.uses)
kept_uses said (s ∷ ss) = refl

said_uses : (ts : List (List Spot)) (said : Said) → (said_after said ts).uses ≡ said.uses ++ uses ts
said_uses [] said = sym (append-nil said.uses)
said_uses (t ∷ ts) said = said_uses ts (after_line said t) ∙ (ap (λ us. us ++ uses ts) (kept_uses said t) ∙ append_assoc said.uses (uses_of t) (uses ts))

lines_fine : (m : Model) (line name : Spot) (behind : List (List Spot)) → IsWellFormed m → Body Shut behind m.latches m.covers → AreUsesOf m (uses behind) → IsFine (spots_fault nothing_said ((with_word line (codes ".model") ∷ name ∷ []) ∷ behind))
lines_fine m line name behind good b h =
    or_else_fine (or_else_fine (or_else_fine (limit_fine (nat_lt 1024 (length name.word)) NameLength (length name.word) name.place) no_refusal) no_refusal)
    (body_goes Shut behind m.latches m.covers b [] None tt (uses_clear m (uses behind) good h))

pub read_texts_are_faultless : RanksExist → ReadTextsAreFaultless
read_texts_are_faultless exist text m flawless reads =
    let ls = layout text in
    let ts = spots_in ls in
    let spotted : Reads (map words ts) m = subst (λ (lines : List Line). Reads lines m) (lines-spots ls) reads in
    let t = text_of_spots m ts spotted in
    let good = spotted.well_formed in
    let lines : IsFine (lines_fault nothing_said ls) =
    subst IsFine (sym (lines_fault-spots ls flawless nothing_said ∙ ap (spots_fault nothing_said) t.whole)) (lines_fine m t.line t.name t.behind good t.body t.uses_of_it) in
    let used : (said_by nothing_said ls).uses ≡ uses t.behind =
    ap (λ (said : Said). said.uses) (said_by-spots ls nothing_said) ∙ (said_uses ts nothing_said ∙ ap uses t.whole) in
    let driven : IsFine (undriven_fault (said_by nothing_said ls).uses) =
    subst (λ (us : List Use). IsFine (undriven_fault us)) (sym used) (no_undriven (uses t.behind) (none_undriven m (uses t.behind) good t.uses_of_it [] (uses t.behind) refl)) in
    let covers : map (λ (e : Place × Cover). e.1) (filter_map cover_in ls) ≡ map bare m.covers =
    ap (map (λ (e : Place × Cover). e.1)) (covers-spots ls ∙ ap (filter_map cover_at) t.whole) ∙ body_says Shut t.behind m.latches m.covers t.body in
    let ranked : IsFine (rank_fault (filter_map cover_in ls)) = subst IsFine (sym (no_unranked exist m (filter_map cover_in ls) good spotted.ranked covers)) no_refusal in
    (or_else_fine lines (or_else_fine driven ranked)).limit
