-- The names and covers of a text, and those of its model, are within the limits together.
use Rattle.std.proofs.Common.{◌≡◌, ◌≤◌, ◌+◌, ℕ, List, [], ◌∷◌, ◌++◌, map, filter, length, Bool, true, false, not, ◌&&◌, ◌||◌, All, refl, sym, ◌∙◌, ap, subst, arith, length-append, Option, None, Some}
use Rattle.std.specs.Prelude.{if◌then◌else◌, nat_lt, codes, find, IfSome, ◌≢◌}
use Rattle.std.specs.List.{filter_map, flat_map, list_all}
use Rattle.std.proofs.lemmas.Bool.{ltb-false, or_left, or_right}
use Rattle.std.proofs.lemmas.List.Folds.{list_all-append}
use Rattle.std.proofs.lemmas.List.Elements.{All-head, All-tail, All-cons, All-nil}
use Rattle.rm_base.specs.declared.numbers.Place.{Place}
use Rattle.rm_model.specs.Words.{is_word}
use Rattle.rm_model.specs.Value.{is_among, source_names, control_of}
use Rattle.rm_model.specs.WellFormed.{driven_names, used_names, IsWellFormed}
use Rattle.rm_model.specs.Ranks.{ranks_of}
use Rattle.rm_model.specs.declared.parts.Cover.{Cover}
use Rattle.rm_model.specs.declared.parts.Latch.{Latch as LatchPart}
use Rattle.rm_model.specs.declared.parts.Model.{Model as CircuitModel}
use Rattle.blif_lines.specs.Layout.{Spot, Logical, layout, lines_of}
use Rattle.blif_format.specs.Text.{Line, cover_words}
use Rattle.blif_format.specs.Grammar.{Reads, begins_with, words_after, names_lines, before, is_dotted as is_dotted_line}
use Rattle.blif_format.specs.Uses.{command_of, names_parts, Use, is_source_role, names_in, distinct_count, is_clock, is_input, is_output}
use Rattle.blif_format.specs.declared.words.Command.TheVariants.{Model, Names}
use Rattle.blif_format.specs.declared.words.Role.{Role}
use Rattle.blif_format.specs.declared.words.Role.TheVariants.{Input, ClockInput, Output, CoverInput, CoverOutput, LatchInput, LatchOutput, Control}
use Rattle.blif_format.specs.declared.words.Part.TheVariants.{Title}
use Rattle.blif_format.specs.FirstFault.{or_else, name_limit, fault_if, use_fault, parts_fault, command_fault, dotted_fault, row_fault_in, words_fault, flaw_fault, is_dotted, Said, after_line, is_cover_input, is_undriven, undriven_fault, nothing_said, said_by, lines_fault, cover_in, bare_model, first_unranked, rank_fault, first_fault}
use Rattle.blif_format.specs.declared.refusal.FaultKind.TheVariants.{MissingWord, Undriven, NoRank}
use Rattle.blif_format.specs.declared.refusal.Quantity.{Quantity}
use Rattle.blif_format.specs.declared.refusal.Quantity.TheVariants.{Name as NameLength}
use Rattle.blif_format.specs.declared.refusal.ReadRefusal.{ReadRefusal}
use Rattle.blif_format.specs.declared.refusal.ReadRefusal.TheVariants.{Fault, Limit}
use Rattle.blif_reader.specs.Limits.{is_short, IsWithinLimits}
use Rattle.blif_reader.specs.Inner.Tally.{plays, is_latch, is_cover}
use Rattle.blif_reader.specs.Words.{IsFitLatch}
use Rattle.blif_reader.proofs.Plays.{names_among, names_more, plays_or, plays_same, plays_source}
use Rattle.blif_reader.proofs.NameLaws.{is_latch_input, is_control, all_uses, said_uses}
use Rattle.blif_reader.proofs.FormLaws.{NamesAre, among_append, among_others, lines_in, names_are}
use Rattle.blif_reader.proofs.SizeLaws.{fewer, observed_length, observed_small, sources_small}
use Rattle.blif_reader.proofs.CleanLaws.{IsClean, IsFree, clean_lines, free_use, not_limit, nothing_clean}
use Rattle.blif_reader.proofs.UseWalk.{walked_lines}
use Rattle.blif_reader.proofs.RowLaws.{first_none, second_none}
use Rattle.blif_reader.proofs.KnownLaws.{first_goes, later_goes, dotted_goes}
use Rattle.blif_reader.proofs.WordCounts.{among_has}
use Rattle.blif_reader.proofs.NoLimits.{NoLimit, AreFew, AreFitLines, IsFitLine, spelled_length, every, text_fine, or_else_fine, fault_fine, none_fine, limit_never}
use Rattle.rm_base.proofs.Public.{and_first, and_second, both_and}
use Rattle.rm_base.specs.Words.{Word}
use Rattle.rm_model.proofs.Public.{is_word-same, same_word}

-- words of a list have what all words of another have among which they are
all_among : (p : Word → Bool) (xs ys : List Word) → list_all (is_among ys) xs ≡ true → list_all p ys ≡ true → list_all p xs ≡ true
all_among p [] ys h k = refl
all_among p (x ∷ xs) ys h k = both_and (p x) (list_all p xs) (among_has p x ys (and_first (is_among ys x) (list_all (is_among ys) xs) h) k) (all_among p xs ys (and_second (is_among ys x) (list_all (is_among ys) xs) h) k)

among_each : (xs ys : List Word) → ((z : Word) → is_among xs z ≡ true → is_among ys z ≡ true) → list_all (is_among ys) xs ≡ true
among_each [] ys h = refl
among_each (x ∷ xs) ys h = both_and (is_among ys x) (list_all (is_among ys) xs) (h x (ap (λ b. b || is_among xs x) (is_word-same x))) (among_each xs ys (λ z e. h z (ap (λ b. is_word z x || b) e ∙ last (is_word z x))))
  where
    last : (b : Bool) → (b || true) ≡ true
    last true = refl
    last false = refl

or_case : {C : Type 0} (a b : Bool) → (a || b) ≡ true → (a ≡ true → C) → (b ≡ true → C) → C
or_case true b e f g = f refl
or_case false b e f g = g e

-- NAMES OF THE MODEL AND OF ITS USES
abbrev each_role : Role → Bool
each_role r = is_input r || (is_clock r || (is_latch r || (is_cover r || (is_output r || (is_latch_input r || (is_control r || is_cover_input r))))))

every_role : (r : Role) → every r ≡ each_role r
every_role Input = refl
every_role ClockInput = refl
every_role Output = refl
every_role CoverInput = refl
every_role CoverOutput = refl
every_role LatchInput = refl
every_role LatchOutput = refl
every_role Control = refl

in_roles : (us : List Use) (z : Word) → plays every us z ≡ (plays is_input us z || (plays is_clock us z || (plays is_latch us z || (plays is_cover us z || (plays is_output us z || (plays is_latch_input us z || (plays is_control us z || plays is_cover_input us z)))))))
in_roles us z =
    plays_same every each_role every_role us z
    ∙ plays_or is_input (λ r. is_clock r || (is_latch r || (is_cover r || (is_output r || (is_latch_input r || (is_control r || is_cover_input r)))))) us z
    ∙ ap (λ b. plays is_input us z || b) (plays_or is_clock (λ r. is_latch r || (is_cover r || (is_output r || (is_latch_input r || (is_control r || is_cover_input r))))) us z
    ∙ ap (λ b. plays is_clock us z || b) (plays_or is_latch (λ r. is_cover r || (is_output r || (is_latch_input r || (is_control r || is_cover_input r)))) us z
    ∙ ap (λ b. plays is_latch us z || b) (plays_or is_cover (λ r. is_output r || (is_latch_input r || (is_control r || is_cover_input r))) us z
    ∙ ap (λ b. plays is_cover us z || b) (plays_or is_output (λ r. is_latch_input r || (is_control r || is_cover_input r)) us z
    ∙ ap (λ b. plays is_output us z || b) (plays_or is_latch_input (λ r. is_control r || is_cover_input r) us z
    ∙ ap (λ b. plays is_latch_input us z || b) (plays_or is_control is_cover_input us z))))))

plays_any : (t : Role → Bool) (us : List Use) (z : Word) → plays t us z ≡ true → plays every us z ≡ true
plays_any t [] z e = cc
plays_any t (u ∷ us) z e = or_case (t u.role && is_word u.name z) (plays t us z) e
    (λ h. or_left (is_word u.name z) (plays every us z) (and_second (t u.role) (is_word u.name z) h))
    (λ h. or_right (is_word u.name z) (plays every us z) (plays_any t us z h))

module _ (us : List Use) (m : CircuitModel) (n : NamesAre us m) where
  -- a name of a part is used in its role
  plays_part : (t : Role → Bool) (xs : List Word) → names_in t us ≡ xs → (z : Word) → is_among xs z ≡ plays t us z
  plays_part t xs e z = ap (λ ys. is_among ys z) (sym e) ∙ names_among t us z

  -- SOURCES
  input_source : (z : Word) → is_among m.inputs z ≡ true → is_among (source_names m) z ≡ true
  input_source z e =
      among_append (m.inputs ++ filter (λ x. not (is_among m.inputs x)) m.clocks) (map (λ (l : LatchPart). l.output) m.latches) z
      ∙ or_left (is_among (m.inputs ++ filter (λ x. not (is_among m.inputs x)) m.clocks) z) (is_among (map (λ (l : LatchPart). l.output) m.latches) z)
      (among_append m.inputs (filter (λ x. not (is_among m.inputs x)) m.clocks) z ∙ or_left (is_among m.inputs z) (is_among (filter (λ x. not (is_among m.inputs x)) m.clocks) z) e)

  clock_source : (z : Word) → is_among m.clocks z ≡ true → is_among (source_names m) z ≡ true
  clock_source z e =
      among_append (m.inputs ++ filter (λ x. not (is_among m.inputs x)) m.clocks) (map (λ (l : LatchPart). l.output) m.latches) z
      ∙ or_left (is_among (m.inputs ++ filter (λ x. not (is_among m.inputs x)) m.clocks) z) (is_among (map (λ (l : LatchPart). l.output) m.latches) z)
      (among_append m.inputs (filter (λ x. not (is_among m.inputs x)) m.clocks) z
      ∙ ap (λ b. is_among m.inputs z || b) (among_others m.inputs m.clocks z)
      ∙ at (is_among m.inputs z) (is_among m.clocks z) e)
    where
      at : (i c : Bool) → c ≡ true → (i || (c && not i)) ≡ true
      at true c e = refl
      at false true e = refl
      at false false e = e

  latch_source : (z : Word) → is_among (map (λ (l : LatchPart). l.output) m.latches) z ≡ true → is_among (source_names m) z ≡ true
  latch_source z e =
      among_append (m.inputs ++ filter (λ x. not (is_among m.inputs x)) m.clocks) (map (λ (l : LatchPart). l.output) m.latches) z
      ∙ or_right (is_among (m.inputs ++ filter (λ x. not (is_among m.inputs x)) m.clocks) z) (is_among (map (λ (l : LatchPart). l.output) m.latches) z) e

  source_use : (z : Word) → plays is_source_role us z ≡ true → is_among (source_names m) z ≡ true
  source_use z e = or_case (plays is_input us z) (plays is_clock us z || plays is_latch us z) (sym (plays_source us z) ∙ e)
      (λ h. input_source z (plays_part is_input m.inputs n.inputs z ∙ h))
      (λ h. or_case (plays is_clock us z) (plays is_latch us z) h
      (λ k. clock_source z (plays_part is_clock m.clocks n.clocks z ∙ k))
      (λ k. latch_source z (plays_part is_latch (map (λ (l : LatchPart). l.output) m.latches) n.latches z ∙ k)))

  source_driven : (z : Word) → is_among (source_names m) z ≡ true → is_among (driven_names m) z ≡ true
  source_driven z e = among_append (source_names m) (map (λ (c : Cover). c.output) m.covers) z ∙ or_left (is_among (source_names m) z) (is_among (map (λ (c : Cover). c.output) m.covers) z) e

  cover_driven : (z : Word) → is_among (map (λ (c : Cover). c.output) m.covers) z ≡ true → is_among (driven_names m) z ≡ true
  cover_driven z e = among_append (source_names m) (map (λ (c : Cover). c.output) m.covers) z ∙ or_right (is_among (source_names m) z) (is_among (map (λ (c : Cover). c.output) m.covers) z) e

  -- a name that the model uses is driven
  module _ (formed : IsWellFormed m) where
    used : (z : Word) → is_among (used_names m) z ≡ true → is_among (driven_names m) z ≡ true
    used z e = among_has (is_among (driven_names m)) z (used_names m) e formed.all_driven

    abbrev cover_inputs : List Word
    cover_inputs = flat_map (λ (c : Cover). c.inputs) m.covers

    abbrev latch_inputs : List Word
    latch_inputs = map (λ (l : LatchPart). l.input) m.latches

    abbrev controls : List Word
    controls = filter_map control_of m.latches

    output_driven : (z : Word) → is_among m.outputs z ≡ true → is_among (driven_names m) z ≡ true
    output_driven z e = used z (among_append ((m.outputs ++ cover_inputs) ++ latch_inputs) controls z ∙ or_left _ (is_among controls z) (among_append (m.outputs ++ cover_inputs) latch_inputs z ∙ or_left _ (is_among latch_inputs z) (among_append m.outputs cover_inputs z ∙ or_left (is_among m.outputs z) (is_among cover_inputs z) e)))

    cover_input_driven : (z : Word) → is_among cover_inputs z ≡ true → is_among (driven_names m) z ≡ true
    cover_input_driven z e = used z (among_append ((m.outputs ++ cover_inputs) ++ latch_inputs) controls z ∙ or_left _ (is_among controls z) (among_append (m.outputs ++ cover_inputs) latch_inputs z ∙ or_left _ (is_among latch_inputs z) (among_append m.outputs cover_inputs z ∙ or_right (is_among m.outputs z) (is_among cover_inputs z) e)))

    latch_input_driven : (z : Word) → is_among latch_inputs z ≡ true → is_among (driven_names m) z ≡ true
    latch_input_driven z e = used z (among_append ((m.outputs ++ cover_inputs) ++ latch_inputs) controls z ∙ or_left _ (is_among controls z) (among_append (m.outputs ++ cover_inputs) latch_inputs z ∙ or_right (is_among (m.outputs ++ cover_inputs) z) (is_among latch_inputs z) e))

    control_driven : (z : Word) → is_among controls z ≡ true → is_among (driven_names m) z ≡ true
    control_driven z e = used z (among_append ((m.outputs ++ cover_inputs) ++ latch_inputs) controls z ∙ or_right (is_among ((m.outputs ++ cover_inputs) ++ latch_inputs) z) (is_among controls z) e)

    use_driven : (z : Word) → plays every us z ≡ true → is_among (driven_names m) z ≡ true
    use_driven z e = or_case (plays is_input us z) _ (sym (in_roles us z) ∙ e)
        (λ h. source_driven z (input_source z (plays_part is_input m.inputs n.inputs z ∙ h)))
        (λ e. or_case (plays is_clock us z) _ e
        (λ h. source_driven z (clock_source z (plays_part is_clock m.clocks n.clocks z ∙ h)))
        (λ e. or_case (plays is_latch us z) _ e
        (λ h. source_driven z (latch_source z (plays_part is_latch (map (λ (l : LatchPart). l.output) m.latches) n.latches z ∙ h)))
        (λ e. or_case (plays is_cover us z) _ e
        (λ h. cover_driven z (plays_part is_cover (map (λ (c : Cover). c.output) m.covers) n.covers z ∙ h))
        (λ e. or_case (plays is_output us z) _ e
        (λ h. output_driven z (plays_part is_output m.outputs n.outputs z ∙ h))
        (λ e. or_case (plays is_latch_input us z) _ e
        (λ h. latch_input_driven z (plays_part is_latch_input latch_inputs n.latch_inputs z ∙ h))
        (λ e. or_case (plays is_control us z) (plays is_cover_input us z) e
        (λ h. control_driven z (plays_part is_control controls n.controls z ∙ h))
        (λ h. cover_input_driven z (plays_part is_cover_input cover_inputs n.cover_inputs z ∙ h))))))))

    pub few_uses : IsWithinLimits m → AreFew (source_names m) (driven_names m) us
    few_uses w =
        let among : list_all (is_among (driven_names m)) (names_in every us) ≡ true = among_each (names_in every us) (driven_names m) (λ z e. use_driven z (sym (names_among every us z) ∙ e)) in
        record {
          short = all_among is_short (names_in every us) (driven_names m) among w.names;
          from_sources = among_each (names_in is_source_role us) (source_names m) (λ z e. source_use z (sym (names_among is_source_role us z) ∙ e));
          observed = subst (λ (k : ℕ). k ≤ 4096) (sym (observed_length us m n)) w.observed;
          signals = among;
        }

  driven_use : (z : Word) → is_among (driven_names m) z ≡ true → plays every us z ≡ true
  driven_use z e = or_case (is_among (source_names m) z) (is_among (map (λ (c : Cover). c.output) m.covers) z) (sym (among_append (source_names m) (map (λ (c : Cover). c.output) m.covers) z) ∙ e)
      (λ h. or_case (is_among (m.inputs ++ filter (λ x. not (is_among m.inputs x)) m.clocks) z) (is_among (map (λ (l : LatchPart). l.output) m.latches) z) (sym (among_append (m.inputs ++ filter (λ x. not (is_among m.inputs x)) m.clocks) (map (λ (l : LatchPart). l.output) m.latches) z) ∙ h)
      (λ k. or_case (is_among m.inputs z) (is_among (filter (λ x. not (is_among m.inputs x)) m.clocks) z) (sym (among_append m.inputs (filter (λ x. not (is_among m.inputs x)) m.clocks) z) ∙ k)
      (λ i. of is_input m.inputs n.inputs i)
      (λ o. of is_clock m.clocks n.clocks (and_first (is_among m.clocks z) (not (is_among m.inputs z)) (sym (among_others m.inputs m.clocks z) ∙ o))))
      (λ k. of is_latch (map (λ (l : LatchPart). l.output) m.latches) n.latches k))
      (λ h. of is_cover (map (λ (c : Cover). c.output) m.covers) n.covers h)
    where
      of : (t : Role → Bool) (xs : List Word) → names_in t us ≡ xs → is_among xs z ≡ true → plays every us z ≡ true
      of t xs same h = plays_any t us z (sym (plays_part t xs same z) ∙ h)

  driven_among : list_all (is_among (names_in every us)) (driven_names m) ≡ true
  driven_among = among_each (driven_names m) (names_in every us) (λ z e. names_among every us z ∙ driven_use z e)

  pub driven_short : list_all is_short (names_in every us) ≡ true → list_all is_short (driven_names m) ≡ true
  driven_short h = all_among is_short (driven_names m) (names_in every us) driven_among h

  pub driven_few : IsWellFormed m → length (driven_names m) ≤ distinct_count (names_in every us)
  driven_few formed = fewer (driven_names m) (names_in every us) formed.driven_once (λ z e. names_among every us z ∙ driven_use z e)

-- COVERS
abbrev first_in : List (Line × List Line) → Line
first_in [] = []
first_in (x ∷ xs) = x.0

abbrev rest_in : List (Line × List Line) → List (Line × List Line)
rest_in [] = []
rest_in (x ∷ xs) = xs

pub fit_lines : (ls : List Line) (cs : List Cover) → names_lines ls ≡ map cover_words cs → All (λ (c : Cover). length c.inputs ≤ 65536) cs → AreFitLines ls
fit_lines [] cs e few = tt
fit_lines (l ∷ ls) cs e few = at (begins_with (codes ".names") l) refl (fit_lines ls)
  where
    at : (b : Bool) → begins_with (codes ".names") l ≡ b → ((cs : List Cover) → names_lines ls ≡ map cover_words cs → All (λ (c : Cover). length c.inputs ≤ 65536) cs → AreFitLines ls) → AreFitLines (l ∷ ls)
    at false h ih = (λ t. let wrong : false ≡ true = sym h ∙ t in cc, ih cs (rw h at e) few)
    at true h ih = by cs (rw h at e) few
      where
        by : (cs : List Cover) → (words_after l, before is_dotted_line ls) ∷ names_lines ls ≡ map cover_words cs → All (λ (c : Cover). length c.inputs ≤ 65536) cs → AreFitLines (l ∷ ls)
        by [] e few = cc
        by (c ∷ cs) e few =
            let same : words_after l ≡ c.inputs ++ c.output ∷ [] = ap first_in e in
            let long : length (words_after l) ≡ length c.inputs + 1 = ap length same ∙ length-append c.inputs (c.output ∷ []) in
            let few_inputs : length c.inputs ≤ 65536 = All-head (λ (c : Cover). length c.inputs ≤ 65536) c cs few in
            (λ t. omega arith, ih cs (ap rest_in e) (All-tail (λ (c : Cover). length c.inputs ≤ 65536) c cs few))

-- THE WHOLE TEXT
fit_latches : (ls : List LatchPart) → All (λ (l : LatchPart). IfSome l.init (λ n. n ≤ 3)) ls → All (λ (l : LatchPart). IfSome (control_of l) (λ x. x ≢ codes "NIL")) ls → All IsFitLatch ls
fit_latches [] a b = All-nil IsFitLatch
fit_latches (l ∷ ls) a b = All-cons IsFitLatch l ls
    (All-head (λ (l : LatchPart). IfSome l.init (λ n. n ≤ 3)) l ls a, All-head (λ (l : LatchPart). IfSome (control_of l) (λ x. x ≢ codes "NIL")) l ls b)
    (fit_latches ls (All-tail (λ (l : LatchPart). IfSome l.init (λ n. n ≤ 3)) l ls a) (All-tail (λ (l : LatchPart). IfSome (control_of l) (λ x. x ≢ codes "NIL")) l ls b))

pub text_names : (text : List ℕ) (m : CircuitModel) → Reads (lines_of text) m → NamesAre (all_uses (layout text)) m
text_names text m r = names_are (layout text) m r.inputs r.outputs r.clocks r.latches r.covers (fit_latches m.latches r.well_formed.inits r.well_formed.controls)

undriven_fine : (us : List Use) → NoLimit (undriven_fault us)
undriven_fine us = at (find (is_undriven us) us)
  where
    at : (o : Option Use) → NoLimit (elim o as (λ _. Option ReadRefusal) [ None ↦ None | Some this ↦ Some (Fault Undriven this.place) ])
    at None = none_fine
    at (Some u) = fault_fine Undriven u.place

unranked_fine : (ps : List Place) (ranks : List (Option ℕ)) → NoLimit (first_unranked ps ranks)
unranked_fine [] ranks = none_fine
unranked_fine (p ∷ ps) [] = none_fine
unranked_fine (p ∷ ps) (None ∷ ranks) = fault_fine NoRank p
unranked_fine (p ∷ ps) (Some rank ∷ ranks) = unranked_fine ps ranks

pub limits_are_kept : (text : List ℕ) (m : CircuitModel) → Reads (lines_of text) m → IsWithinLimits m → (quantity : Quantity) (count : ℕ) (place : Place) → first_fault text ≡ Some (Limit quantity count place) → ⊥
limits_are_kept text m r w quantity count place e = limit_never (first_fault text) quantity count place whole e
  where
    all_fit : AreFitLines (lines_of text)
    all_fit = fit_lines (lines_of text) m.covers r.covers w.inputs

    lines : NoLimit (lines_fault nothing_said (layout text))
    lines = text_fine (source_names m) (driven_names m) w.sources w.signals (layout text) m.name r.first.0 r.first.1 w.title (subst AreFitLines r.first.1 all_fit).1 (few_uses (all_uses (layout text)) m (text_names text m r) r.well_formed w)

    whole : NoLimit (first_fault text)
    whole = or_else_fine (lines_fault nothing_said (layout text)) (or_else (undriven_fault (said_by nothing_said (layout text)).uses) (rank_fault (filter_map cover_in (layout text)))) lines
        (or_else_fine (undriven_fault (said_by nothing_said (layout text)).uses) (rank_fault (filter_map cover_in (layout text))) (undriven_fine (said_by nothing_said (layout text)).uses)
        (unranked_fine (map (λ (e : Place × Cover). e.0) (filter_map cover_in (layout text))) (ranks_of (bare_model (map (λ (e : Place × Cover). e.1) (filter_map cover_in (layout text)))))))

-- A TEXT WITHOUT FAULT
-- the names used are short, and not too many
record AreCounted (us : List Use) : Type 0 where
  short : list_all is_short (names_in every us) ≡ true
  signals : distinct_count (names_in every us) ≤ 131072

nothing_counted : AreCounted []
nothing_counted = record { short = refl; signals = omega arith }

one_more : (had : List Use) (earlier : ℕ) (u : Use) → use_fault had earlier u ≡ None → AreCounted had → AreCounted (had ++ u ∷ [])
one_more had earlier u none c = by (free_use had earlier u none)
  where
    by : IsFree had earlier u → AreCounted (had ++ u ∷ [])
    by f = record {
      short = ap (list_all is_short) (names_more every had u) ∙ list_all-append is_short (names_in every had) (u.name ∷ []) ∙ both_and (list_all is_short (names_in every had)) (is_short u.name && true) c.short (both_and (is_short u.name) true (ap not f.short) refl);
      signals = f.signals;
    }

title_short : (ls : List Logical) (name : Word) (body : List Line) → lines_in ls ≡ (codes ".model" ∷ name ∷ []) ∷ body → lines_fault nothing_said ls ≡ None → length name ≤ 1024
title_short [] name body e none = cc
title_short (l ∷ ls) name body e none = at l.tokens refl (title_short ls name body)
  where
    after : or_else (words_fault nothing_said l.tokens) (lines_fault (after_line nothing_said l.tokens) ls) ≡ None
    after = second_none (flaw_fault l.flaw) (or_else (words_fault nothing_said l.tokens) (lines_fault (after_line nothing_said l.tokens) ls)) none

    head_in : List Line → Line
    head_in [] = []
    head_in (x ∷ xs) = x

    in_line : (s : Spot) (ss : List Spot) → map (λ (t : Spot). t.word) ss ≡ name ∷ [] → command_fault [] s Model ss ≡ None → length name ≤ 1024
    in_line s [] e none = cc
    in_line s (t ∷ []) e none =
        let limit : name_limit t.word t.place ≡ None = first_none (name_limit t.word t.place) None (first_none (parts_fault [] 0 ((Title, t) ∷ [])) (fault_if (nat_lt 1 1) MissingWord s.place) none) in
        let most : length t.word ≤ 1024 = ltb-false 1024 (length t.word) (not_limit (nat_lt 1024 (length t.word)) NameLength (length t.word) t.place limit) in
        subst (λ (w : Word). length w ≤ 1024) (ap first_of e) most
      where
        first_of : List Word → Word
        first_of [] = []
        first_of (w ∷ ws) = w
    in_line s (t ∷ u ∷ ss) e none = cc

    at : (ts : List Spot) → l.tokens ≡ ts → (lines_in ls ≡ (codes ".model" ∷ name ∷ []) ∷ body → lines_fault nothing_said ls ≡ None → length name ≤ 1024) → length name ≤ 1024
    at [] h ih =
        let rest : lines_in ls ≡ (codes ".model" ∷ name ∷ []) ∷ body = rw h at e in
        let none : lines_fault nothing_said ls ≡ None = rw h at after in
        ih rest none
    at (s ∷ ss) h ih =
        let whole : (s.word ∷ map (λ (t : Spot). t.word) ss) ∷ lines_in ls ≡ (codes ".model" ∷ name ∷ []) ∷ body = rw h at e in
        let none : or_else (words_fault nothing_said (s ∷ ss)) (lines_fault (after_line nothing_said (s ∷ ss)) ls) ≡ None = rw h at after in
        let words : words_fault nothing_said (s ∷ ss) ≡ None = first_none (words_fault nothing_said (s ∷ ss)) (lines_fault (after_line nothing_said (s ∷ ss)) ls) none in
        in_line s ss (ap (λ (xs : List Line). words_after (head_in xs)) whole) (first_goes nothing_said s ss words refl).1

-- a cover's names without fault are few
names_narrow : (had : List Use) (earlier : ℕ) (ss : List Spot) → earlier ≤ 65536 → parts_fault had earlier (names_parts ss) ≡ None → earlier + length ss ≤ 65537
names_narrow had earlier [] few none = omega arith
names_narrow had earlier (s ∷ []) few none = omega arith
names_narrow had earlier (s ∷ t ∷ ss) few none =
    let u : Use = record { role = CoverInput; name = s.word; place = s.place } in
    let here : use_fault had earlier u ≡ None = first_none (use_fault had earlier u) (parts_fault (had ++ u ∷ []) (earlier + 1) (names_parts (t ∷ ss))) none in
    let free : IsFree had earlier u = free_use had earlier u here in
    let most : earlier ≤ 65535 = ltb-false 65535 earlier free.narrow in
    let rest : (earlier + 1) + length (t ∷ ss) ≤ 65537 = names_narrow (had ++ u ∷ []) (earlier + 1) (t ∷ ss) (omega arith) (second_none (use_fault had earlier u) (parts_fault (had ++ u ∷ []) (earlier + 1) (names_parts (t ∷ ss))) none) in
    omega arith

line_narrow : (said : Said) (s : Spot) (ss : List Spot) → words_fault said (s ∷ ss) ≡ None → IsFitLine (s.word ∷ map (λ (t : Spot). t.word) ss)
line_narrow said s ss none named = at said.began refl
  where
    is : codes ".names" ≡ s.word
    is = same_word (codes ".names") s.word named

    at : (t : Bool) → said.began ≡ t → length (map (λ (t : Spot). t.word) ss) ≤ 65537
    at false b =
        let model : codes ".model" ≡ s.word = same_word (codes ".model") s.word (first_goes said s ss none b).0 in
        let wrong : Some Model ≡ Some Names = ap command_of (model ∙ sym is) in absurd (differ wrong)
      where
        differ : Some Model ≡ Some Names → ⊥
        differ e = cc
    at true b =
        let known : command_of s.word ≡ Some Names = ap command_of (sym is) in
        let dot : is_dotted s.word ≡ true = ap is_dotted (sym is) in
        let later : (if is_dotted s.word then dotted_fault said.uses s ss (command_of s.word) else row_fault_in said.cover s ss) ≡ None = later_goes said s ss none b in
        let command : dotted_fault said.uses s ss (Some Names) ≡ None = ap (dotted_fault said.uses s ss) (sym known) ∙ (ap (λ (t : Bool). if t then dotted_fault said.uses s ss (command_of s.word) else row_fault_in said.cover s ss) (sym dot) ∙ later) in
        let parts : parts_fault said.uses 0 (names_parts ss) ≡ None = first_none (parts_fault said.uses 0 (names_parts ss)) (fault_if (nat_lt (length ss) 1) MissingWord s.place) (dotted_goes said.uses s ss Names command).1 in
        let few : 0 + length ss ≤ 65537 = names_narrow said.uses 0 ss (omega arith) parts in
        let same : length (map (λ (t : Spot). t.word) ss) ≡ length ss = spelled_length ss in
        omega arith

lines_narrow : (said : Said) (ls : List Logical) → lines_fault said ls ≡ None → AreFitLines (lines_in ls)
lines_narrow said [] none = tt
lines_narrow said (l ∷ ls) none = at l.tokens refl (λ more. lines_narrow more ls)
  where
    after : or_else (words_fault said l.tokens) (lines_fault (after_line said l.tokens) ls) ≡ None
    after = second_none (flaw_fault l.flaw) (or_else (words_fault said l.tokens) (lines_fault (after_line said l.tokens) ls)) none

    at : (ts : List Spot) → l.tokens ≡ ts → ((more : Said) → lines_fault more ls ≡ None → AreFitLines (lines_in ls)) → AreFitLines (lines_in (l ∷ ls))
    at [] h ih =
        let rest : lines_fault said ls ≡ None = rw h at after in
        rw h (ih said rest)
    at (s ∷ ss) h ih =
        let rest : or_else (words_fault said (s ∷ ss)) (lines_fault (after_line said (s ∷ ss)) ls) ≡ None = rw h at after in
        rw h (line_narrow said s ss (first_none (words_fault said (s ∷ ss)) (lines_fault (after_line said (s ∷ ss)) ls) rest), ih (after_line said (s ∷ ss)) (second_none (words_fault said (s ∷ ss)) (lines_fault (after_line said (s ∷ ss)) ls) rest))

covers_narrow : (ls : List Line) (cs : List Cover) → names_lines ls ≡ map cover_words cs → AreFitLines ls → All (λ (c : Cover). length c.inputs ≤ 65536) cs
covers_narrow [] [] e fit = All-nil (λ (c : Cover). length c.inputs ≤ 65536)
covers_narrow [] (c ∷ cs) e fit = cc
covers_narrow (l ∷ ls) cs e fit = at (begins_with (codes ".names") l) refl (covers_narrow ls)
  where
    by : (cs : List Cover) → (words_after l, before is_dotted_line ls) ∷ names_lines ls ≡ map cover_words cs → length (words_after l) ≤ 65537 → ((cs : List Cover) → names_lines ls ≡ map cover_words cs → AreFitLines ls → All (λ (c : Cover). length c.inputs ≤ 65536) cs) → All (λ (c : Cover). length c.inputs ≤ 65536) cs
    by [] e few ih = cc
    by (c ∷ cs) e few ih =
        let same : words_after l ≡ c.inputs ++ c.output ∷ [] = ap first_in e in
        let long : length (words_after l) ≡ length c.inputs + 1 = ap length same ∙ length-append c.inputs (c.output ∷ []) in
        let here : length c.inputs ≤ 65536 = omega arith in
        All-cons (λ (c : Cover). length c.inputs ≤ 65536) c cs here (ih cs (ap rest_in e) fit.1)

    at : (b : Bool) → begins_with (codes ".names") l ≡ b → ((cs : List Cover) → names_lines ls ≡ map cover_words cs → AreFitLines ls → All (λ (c : Cover). length c.inputs ≤ 65536) cs) → All (λ (c : Cover). length c.inputs ≤ 65536) cs
    at false h ih = ih cs (rw h at e) fit.1
    at true h ih = by cs (rw h at e) (fit.0 h) ih

none_of : (text : List ℕ) → first_fault text ≡ None → lines_fault nothing_said (layout text) ≡ None
none_of text none = first_none (lines_fault nothing_said (layout text)) (or_else (undriven_fault (said_by nothing_said (layout text)).uses) (rank_fault (filter_map cover_in (layout text)))) none

pub faultless_are_within : (text : List ℕ) (m : CircuitModel) → Reads (lines_of text) m → first_fault text ≡ None → IsWithinLimits m
faultless_are_within text m r none = by (none_of text none)
  where
    by : lines_fault nothing_said (layout text) ≡ None → IsWithinLimits m
    by lines = record {
      title = title_short (layout text) m.name r.first.0 r.first.1 lines;
      names = driven_short (all_uses (layout text)) m (text_names text m r) counted.short;
      inputs = covers_narrow (lines_of text) m.covers r.covers (lines_narrow nothing_said (layout text) lines);
      sources = sources_small (all_uses (layout text)) m (text_names text m r) clean;
      observed = observed_small (all_uses (layout text)) m (text_names text m r) clean;
      signals =
          let few : length (driven_names m) ≤ distinct_count (names_in every (all_uses (layout text))) = driven_few (all_uses (layout text)) m (text_names text m r) r.well_formed in
          let most : distinct_count (names_in every (all_uses (layout text))) ≤ 131072 = counted.signals in omega arith;
    }
      where
        counted : AreCounted (all_uses (layout text))
        counted = subst AreCounted (said_uses nothing_said (layout text)) (walked_lines AreCounted one_more nothing_said (layout text) lines nothing_counted)

        clean : IsClean (all_uses (layout text))
        clean = subst IsClean (said_uses nothing_said (layout text)) (clean_lines nothing_said (layout text) lines nothing_clean)
