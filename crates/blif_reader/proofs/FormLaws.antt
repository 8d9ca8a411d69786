-- A model that lines without fault say is well formed.
use Rattle.std.proofs.Common.{◌≡◌, ◌≢◌, List, [], ◌∷◌, ◌++◌, map, filter, Bool, true, false, not, ◌&&◌, ◌||◌, inl, inr, refl, sym, ◌∙◌, ap, Option, None, Some, All}
use Rattle.std.specs.Prelude.{if◌then◌else◌, codes, find, ◌⊎◌}
use Rattle.std.specs.List.{cons_option, filter_map, flat_map, list_all}
use Rattle.std.proofs.lemmas.List.Folds.{list_any-append, list_all-append}
use Rattle.std.proofs.lemmas.List.Elements.{All-head, All-tail}
use Rattle.std.proofs.lemmas.List.{append-nil}
use Rattle.std.proofs.Math.Bool.{or-false}
use Rattle.blif_reader.proofs.TokenLaws.{false_true}
use Rattle.rm_model.specs.Words.{is_word}
use Rattle.rm_model.specs.Value.{is_among, source_names, control_of}
use Rattle.rm_model.specs.WellFormed.{is_distinct, driven_names, used_names}
use Rattle.rm_model.specs.declared.parts.Cover.{Cover}
use Rattle.rm_model.specs.declared.parts.Latch.{Latch}
use Rattle.rm_model.specs.declared.parts.Model.{Model}
use Rattle.blif_lines.specs.Layout.{Logical, words_in, has_words}
use Rattle.blif_format.specs.Text.{Line, latch_words, cover_words}
use Rattle.blif_format.specs.Grammar.{begins_with, words_after, words_of, names_lines}
use Rattle.blif_format.specs.Uses.{Use, is_driver, wants_driver, names_in, is_clock, is_input, is_output}
use Rattle.blif_format.specs.declared.words.Command.{Command}
use Rattle.blif_format.specs.declared.words.Command.TheVariants.{Inputs, Outputs, Clock, Names, Latch as LatchLine}
use Rattle.blif_format.specs.declared.words.Role.{Role}
use Rattle.blif_format.specs.declared.words.Role.TheVariants.{Input, ClockInput, Output, CoverInput, CoverOutput, LatchInput, LatchOutput, Control}
use Rattle.blif_format.specs.FirstFault.{is_cover_input, is_undriven, undriven_fault, fault}
use Rattle.blif_format.specs.declared.refusal.FaultKind.TheVariants.{Undriven}
use Rattle.blif_format.specs.declared.refusal.ReadRefusal.{ReadRefusal}
use Rattle.blif_reader.specs.Inner.Tally.{plays, is_latch, is_cover}
use Rattle.blif_reader.specs.Words.{IsFitLatch}
use Rattle.blif_reader.proofs.Compared.{word_tells}
use Rattle.blif_reader.proofs.Plays.{names_among, plays_driver}
use Rattle.blif_reader.proofs.LineLaws.{word_for}
use Rattle.blif_reader.proofs.CleanLaws.{IsClean, Apart}
use Rattle.blif_reader.proofs.PartNames.{list_words, names_words, cover_names_in, latch_names_in, AreNames, singles, options}
use Rattle.blif_reader.proofs.NameLaws.{is_latch_input, is_control, all_uses, uses_list, only_lines, only_input, only_clock, only_output, only_cover, only_cover_input, only_latch, only_latch_input, only_control, line_picks, list_picks, cover_picks, latch_picks, picks}
use Rattle.rm_base.proofs.Public.{and_first, and_second}
use Rattle.rm_base.specs.Words.{Word}
use Rattle.rm_model.proofs.Public.{is_word-same}

-- THE NAMES OF THE MODEL
-- the names that are used in each role are those of the model's parts
pub record NamesAre (us : List Use) (m : Model) : Type 0 where
  pub inputs : names_in is_input us ≡ m.inputs
  pub clocks : names_in is_clock us ≡ m.clocks
  pub outputs : names_in is_output us ≡ m.outputs
  pub latch_inputs : names_in is_latch_input us ≡ map (λ (l : Latch). l.input) m.latches
  pub latches : names_in is_latch us ≡ map (λ (l : Latch). l.output) m.latches
  pub controls : names_in is_control us ≡ filter_map control_of m.latches
  pub cover_inputs : names_in is_cover_input us ≡ flat_map (λ (c : Cover). c.inputs) m.covers
  pub covers : names_in is_cover us ≡ map (λ (c : Cover). c.output) m.covers

fit_names : (ls : List Latch) → All IsFitLatch ls → AreNames ls
fit_names [] h = tt
fit_names (l ∷ ls) h = ((All-head IsFitLatch l ls h).1, fit_names ls (All-tail IsFitLatch l ls h))

inputs_alone : (cs : List Cover) → flat_map (λ (c : Cover). c.inputs ++ []) cs ≡ flat_map (λ (c : Cover). c.inputs) cs
inputs_alone [] = refl
inputs_alone (c ∷ cs) = ap (λ xs. xs ++ flat_map (λ (d : Cover). d.inputs ++ []) cs) (append-nil c.inputs) ∙ ap (λ xs. c.inputs ++ xs) (inputs_alone cs)

abbrev pub lines_in : List Logical → List Line
lines_in ls = filter has_words (map words_in ls)

by_list : (t : Role → Bool) (k : Command) (ls : List Logical) → flat_map (line_picks t) (lines_in ls) ≡ flat_map (picks t k) (map words_after (filter (begins_with (word_for k)) (lines_in ls))) → names_in t (all_uses ls) ≡ flat_map (picks t k) (map words_after (filter (begins_with (word_for k)) (lines_in ls)))
by_list t k ls e = uses_list t ls ∙ e

pub names_are : (ls : List Logical) (m : Model) → words_of (codes ".inputs") (lines_in ls) ≡ m.inputs → words_of (codes ".outputs") (lines_in ls) ≡ m.outputs → words_of (codes ".clock") (lines_in ls) ≡ m.clocks → map words_after (filter (begins_with (codes ".latch")) (lines_in ls)) ≡ map latch_words m.latches → names_lines (lines_in ls) ≡ map cover_words m.covers → All IsFitLatch m.latches → NamesAre (all_uses ls) m
names_are ls m inputs outputs clocks latches covers fit = record {
  inputs = by_list is_input Inputs ls (only_lines is_input Inputs only_input (lines_in ls)) ∙ list_words (codes ".inputs") (lines_in ls) ∙ inputs;
  clocks = by_list is_clock Clock ls (only_lines is_clock Clock only_clock (lines_in ls)) ∙ list_words (codes ".clock") (lines_in ls) ∙ clocks;
  outputs = by_list is_output Outputs ls (only_lines is_output Outputs only_output (lines_in ls)) ∙ list_words (codes ".outputs") (lines_in ls) ∙ outputs;
  latch_inputs = by_latch is_latch_input (only_lines is_latch_input LatchLine only_latch_input (lines_in ls)) ∙ singles (λ (l : Latch). l.input) m.latches;
  latches = by_latch is_latch (only_lines is_latch LatchLine only_latch (lines_in ls)) ∙ singles (λ (l : Latch). l.output) m.latches;
  controls = by_latch is_control (only_lines is_control LatchLine only_control (lines_in ls)) ∙ options control_of m.latches;
  cover_inputs = by_cover is_cover_input (only_lines is_cover_input Names only_cover_input (lines_in ls)) ∙ inputs_alone m.covers;
  covers = by_cover is_cover (only_lines is_cover Names only_cover (lines_in ls)) ∙ singles (λ (c : Cover). c.output) m.covers;
}
  where
    by_latch : (t : Role → Bool) → flat_map (line_picks t) (lines_in ls) ≡ flat_map (latch_picks t) (map words_after (filter (begins_with (codes ".latch")) (lines_in ls))) → names_in t (all_uses ls) ≡ flat_map (λ (l : Latch). (if t LatchInput then l.input ∷ [] else []) ++ ((if t LatchOutput then l.output ∷ [] else []) ++ list_picks (t Control) (cons_option (control_of l) []))) m.latches
    by_latch t e = uses_list t ls ∙ e ∙ ap (flat_map (latch_picks t)) latches ∙ latch_names_in t m.latches (fit_names m.latches fit)

    by_cover : (t : Role → Bool) → flat_map (line_picks t) (lines_in ls) ≡ flat_map (cover_picks t) (map words_after (filter (begins_with (codes ".names")) (lines_in ls))) → names_in t (all_uses ls) ≡ flat_map (λ (c : Cover). list_picks (t CoverInput) c.inputs ++ (if t CoverOutput then c.output ∷ [] else [])) m.covers
    by_cover t e = uses_list t ls ∙ e ∙ names_words (cover_picks t) (lines_in ls) ∙ ap (flat_map (λ (x : Line × List Line). cover_picks t x.0)) covers ∙ cover_names_in t m.covers

pub among_append : (xs ys : List Word) (x : Word) → is_among (xs ++ ys) x ≡ (is_among xs x || is_among ys x)
among_append xs ys x = list_any-append (is_word x) xs ys

pub distinct_both : (xs ys : List Word) → is_distinct xs ≡ true → is_distinct ys ≡ true → ((x : Word) → is_among xs x ≡ true → is_among ys x ≡ false) → is_distinct (xs ++ ys) ≡ true
distinct_both [] ys h k apart = k
distinct_both (z ∷ zs) ys h k apart =
    let first : not (is_among zs z) ≡ true = and_first (not (is_among zs z)) (is_distinct zs) h in
    let more : is_distinct (zs ++ ys) ≡ true = distinct_both zs ys (and_second (not (is_among zs z)) (is_distinct zs) h) k (λ x e. apart x (ap (λ b. is_word x z || b) e ∙ or_last (is_word x z))) in
    let other : is_among ys z ≡ false = apart z (ap (λ b. b || is_among zs z) (is_word-same z)) in
    ap (λ b. not b && is_distinct (zs ++ ys)) (among_append zs ys z ∙ ap (λ b. is_among zs z || b) other ∙ or-false (is_among zs z)) ∙ ap (λ b. b && is_distinct (zs ++ ys)) first ∙ more
  where
    or_last : (a : Bool) → (a || true) ≡ true
    or_last true = refl
    or_last false = refl

-- the clocks that aren't inputs
abbrev others : List Word → List Word → List Word
others taken xs = filter (λ x. not (is_among taken x)) xs

pub among_others : (taken xs : List Word) (x : Word) → is_among (others taken xs) x ≡ (is_among xs x && not (is_among taken x))
among_others taken [] x = refl
among_others taken (y ∷ ys) x = at (is_among taken y) refl (word_tells x y) (among_others taken ys x)
  where
    at : (b : Bool) → is_among taken y ≡ b → ((is_word x y ≡ true) × (x ≡ y)) ⊎ ((is_word x y ≡ false) × (x ≢ y)) → is_among (others taken ys) x ≡ (is_among ys x && not (is_among taken x)) → is_among (others taken (y ∷ ys)) x ≡ ((is_word x y || is_among ys x) && not (is_among taken x))
    at true e (inl h) ih = let there : is_among taken x ≡ true = ap (is_among taken) h.1 ∙ e in rw e (ih ∙ rw there (never_both (is_among ys x) (is_word x y || is_among ys x)))
      where
        never_both : (a b : Bool) → (a && false) ≡ (b && false)
        never_both true true = refl
        never_both true false = refl
        never_both false true = refl
        never_both false false = refl
    at true e (inr h) ih = rw (e, h.0) ih
    at false e (inl h) ih = let there : is_among taken x ≡ false = ap (is_among taken) h.1 ∙ e in rw e (rw h.0 (rw there refl))
    at false e (inr h) ih = rw e (rw h.0 ih)

distinct_others : (taken xs : List Word) → is_distinct xs ≡ true → is_distinct (others taken xs) ≡ true
distinct_others taken [] h = refl
distinct_others taken (y ∷ ys) h = at (is_among taken y) refl (distinct_others taken ys (and_second (not (is_among ys y)) (is_distinct ys) h))
  where
    out : is_among ys y ≡ false
    out = not_true (is_among ys y) (and_first (not (is_among ys y)) (is_distinct ys) h)
      where
        not_true : (b : Bool) → not b ≡ true → b ≡ false
        not_true true e = cc
        not_true false e = refl

    at : (b : Bool) → is_among taken y ≡ b → is_distinct (others taken ys) ≡ true → is_distinct (others taken (y ∷ ys)) ≡ true
    at true e ih = rw e ih
    at false e ih = rw e (ap (λ b. not b && is_distinct (others taken ys)) (among_others taken ys y ∙ ap (λ b. b && not (is_among taken y)) out) ∙ ih)

module _ (us : List Use) (m : Model) (n : NamesAre us m) where
  there : (t : Role → Bool) (xs : List Word) → names_in t us ≡ xs → (x : Word) → is_among xs x ≡ plays t us x
  there t xs e x = ap (λ ys. is_among ys x) (sym e) ∙ names_among t us x

  apart : (a b : Role → Bool) (xs ys : List Word) → names_in a us ≡ xs → names_in b us ≡ ys → Apart a b us → (x : Word) → is_among xs x ≡ true → is_among ys x ≡ false
  apart a b xs ys e f h x i = there b ys f x ∙ h x (sym (there a xs e x) ∙ i)

  distinct_names : (t : Role → Bool) (xs : List Word) → names_in t us ≡ xs → is_distinct (names_in t us) ≡ true → is_distinct xs ≡ true
  distinct_names t xs e h = ap is_distinct (sym e) ∙ h

  other_clock : (x : Word) → is_among (others m.inputs m.clocks) x ≡ true → is_among m.clocks x ≡ true
  other_clock x e = and_first (is_among m.clocks x) (not (is_among m.inputs x)) (sym (among_others m.inputs m.clocks x) ∙ e)

  not_input : (x : Word) → is_among m.inputs x ≡ true → is_among (others m.inputs m.clocks) x ≡ false
  not_input x e = among_others m.inputs m.clocks x ∙ rw e (never (is_among m.clocks x))
    where
      never : (b : Bool) → (b && false) ≡ false
      never true = refl
      never false = refl

  either : (P : Type 0) (a b : Bool) → (a || b) ≡ true → (a ≡ true → P) → (b ≡ true → P) → P
  either P true b e f g = f refl
  either P false b e f g = g e

  pub sources_once : IsClean us → is_distinct (source_names m) ≡ true
  sources_once c =
      distinct_both (m.inputs ++ others m.inputs m.clocks) (map (λ (l : Latch). l.output) m.latches)
      (distinct_both m.inputs (others m.inputs m.clocks) (distinct_names is_input m.inputs n.inputs c.inputs) (distinct_others m.inputs m.clocks (distinct_names is_clock m.clocks n.clocks c.clocks)) not_input)
      (distinct_names is_latch (map (λ (l : Latch). l.output) m.latches) n.latches c.latches)
      (λ x e. either (is_among (map (λ (l : Latch). l.output) m.latches) x ≡ false) (is_among m.inputs x) (is_among (others m.inputs m.clocks) x) (sym (among_append m.inputs (others m.inputs m.clocks) x) ∙ e)
      (apart is_input is_latch m.inputs (map (λ (l : Latch). l.output) m.latches) n.inputs n.latches c.input_latch x)
      (λ h. apart is_clock is_latch m.clocks (map (λ (l : Latch). l.output) m.latches) n.clocks n.latches c.clock_latch x (other_clock x h)))

  pub driven_once : IsClean us → is_distinct (driven_names m) ≡ true
  driven_once c =
      distinct_both (source_names m) (map (λ (d : Cover). d.output) m.covers) (sources_once c) (distinct_names is_cover (map (λ (d : Cover). d.output) m.covers) n.covers c.covers)
      (λ x e. either (is_among (map (λ (d : Cover). d.output) m.covers) x ≡ false) (is_among (m.inputs ++ others m.inputs m.clocks) x) (is_among (map (λ (l : Latch). l.output) m.latches) x) (sym (among_append (m.inputs ++ others m.inputs m.clocks) (map (λ (l : Latch). l.output) m.latches) x) ∙ e)
      (λ h. either (is_among (map (λ (d : Cover). d.output) m.covers) x ≡ false) (is_among m.inputs x) (is_among (others m.inputs m.clocks) x) (sym (among_append m.inputs (others m.inputs m.clocks) x) ∙ h)
      (apart is_input is_cover m.inputs (map (λ (d : Cover). d.output) m.covers) n.inputs n.covers c.input_cover x)
      (λ k. apart is_clock is_cover m.clocks (map (λ (d : Cover). d.output) m.covers) n.clocks n.covers c.clock_cover x (other_clock x k)))
      (apart is_latch is_cover (map (λ (l : Latch). l.output) m.latches) (map (λ (d : Cover). d.output) m.covers) n.latches n.covers c.latch_cover x))

  -- NAMES THAT ARE USED
  drive_shuffle : (i c l o : Bool) → ((i || (c || l)) || o) ≡ (((i || (c && not i)) || l) || o)
  drive_shuffle true c l o = refl
  drive_shuffle false true l o = refl
  drive_shuffle false false l o = refl

  driven_there : (x : Word) → is_among (names_in is_driver us) x ≡ is_among (driven_names m) x
  driven_there x =
      names_among is_driver us x
      ∙ plays_driver us x
      ∙ ap (λ b. (b || (plays is_clock us x || plays is_latch us x)) || plays is_cover us x) (sym (there is_input m.inputs n.inputs x))
      ∙ ap (λ b. (is_among m.inputs x || (b || plays is_latch us x)) || plays is_cover us x) (sym (there is_clock m.clocks n.clocks x))
      ∙ ap (λ b. (is_among m.inputs x || (is_among m.clocks x || b)) || plays is_cover us x) (sym (there is_latch (map (λ (l : Latch). l.output) m.latches) n.latches x))
      ∙ ap (λ b. (is_among m.inputs x || (is_among m.clocks x || is_among (map (λ (l : Latch). l.output) m.latches) x)) || b) (sym (there is_cover (map (λ (d : Cover). d.output) m.covers) n.covers x))
      ∙ drive_shuffle (is_among m.inputs x) (is_among m.clocks x) (is_among (map (λ (l : Latch). l.output) m.latches) x) (is_among (map (λ (d : Cover). d.output) m.covers) x)
      ∙ ap (λ b. ((is_among m.inputs x || b) || is_among (map (λ (l : Latch). l.output) m.latches) x) || is_among (map (λ (d : Cover). d.output) m.covers) x) (sym (among_others m.inputs m.clocks x))
      ∙ ap (λ b. (b || is_among (map (λ (l : Latch). l.output) m.latches) x) || is_among (map (λ (d : Cover). d.output) m.covers) x) (sym (among_append m.inputs (others m.inputs m.clocks) x))
      ∙ ap (λ b. b || is_among (map (λ (d : Cover). d.output) m.covers) x) (sym (among_append (m.inputs ++ others m.inputs m.clocks) (map (λ (l : Latch). l.output) m.latches) x))
      ∙ sym (among_append (source_names m) (map (λ (d : Cover). d.output) m.covers) x)

  find_step : (v : Use) (vs : List Use) → find (is_undriven us) (v ∷ vs) ≡ None → (is_undriven us v ≡ false) × (find (is_undriven us) vs ≡ None)
  find_step v vs e = at (is_undriven us v) refl
    where
      at : (b : Bool) → is_undriven us v ≡ b → (is_undriven us v ≡ false) × (find (is_undriven us) vs ≡ None)
      at true h = let wrong : Some v ≡ None = rw h at e in cc
      at false h = (h, rw h at e)

  used_there : (t : Role → Bool) → ((r : Role) → t r ≡ true → wants_driver r ≡ true) → (vs : List Use) → find (is_undriven us) vs ≡ None → list_all (is_among (driven_names m)) (names_in t vs) ≡ true
  used_there t wants [] e = refl
  used_there t wants (v ∷ vs) e = at (t v.role) refl (used_there t wants vs (find_step v vs e).1)
    where
      driver : (w b : Bool) → w ≡ true → (w && not b) ≡ false → b ≡ true
      driver true true h k = refl
      driver true false h k = sym k
      driver false b h k = absurd (never (sym h))
        where
          never : true ≡ false → ⊥
          never z = cc

      at : (b : Bool) → t v.role ≡ b → list_all (is_among (driven_names m)) (names_in t vs) ≡ true → list_all (is_among (driven_names m)) (names_in t (v ∷ vs)) ≡ true
      at true h ih = rw h (ap (λ b. b && list_all (is_among (driven_names m)) (names_in t vs)) (sym (driven_there v.name) ∙ driver (wants_driver v.role) (is_among (names_in is_driver us) v.name) (wants v.role h) (find_step v vs e).0) ∙ ih)
      at false h ih = rw h ih

  no_undriven : undriven_fault us ≡ None → find (is_undriven us) us ≡ None
  no_undriven e = at (find (is_undriven us) us) refl e
    where
      at : (o : Option Use) → find (is_undriven us) us ≡ o → elim o as (λ _. Option ReadRefusal) [ None ↦ None | Some this ↦ fault Undriven this.place ] ≡ None → find (is_undriven us) us ≡ None
      at None h k = h
      at (Some u) h k = let wrong : fault Undriven u.place ≡ None = k in cc

  all_both : (p : Word → Bool) (xs ys : List Word) → list_all p xs ≡ true → list_all p ys ≡ true → list_all p (xs ++ ys) ≡ true
  all_both p xs ys h k = list_all-append p xs ys ∙ ap (λ b. b && list_all p ys) h ∙ k

  pub used_driven : undriven_fault us ≡ None → list_all (is_among (driven_names m)) (used_names m) ≡ true
  used_driven e =
      all_both (is_among (driven_names m)) ((m.outputs ++ flat_map (λ (c : Cover). c.inputs) m.covers) ++ map (λ (l : Latch). l.input) m.latches) (filter_map control_of m.latches)
      (all_both (is_among (driven_names m)) (m.outputs ++ flat_map (λ (c : Cover). c.inputs) m.covers) (map (λ (l : Latch). l.input) m.latches)
      (all_both (is_among (driven_names m)) m.outputs (flat_map (λ (c : Cover). c.inputs) m.covers) (ap (list_all (is_among (driven_names m))) (sym n.outputs) ∙ used_there is_output output_wants us (no_undriven e)) (ap (list_all (is_among (driven_names m))) (sym n.cover_inputs) ∙ used_there is_cover_input cover_wants us (no_undriven e)))
      (ap (list_all (is_among (driven_names m))) (sym n.latch_inputs) ∙ used_there is_latch_input latch_wants us (no_undriven e)))
      (ap (list_all (is_among (driven_names m))) (sym n.controls) ∙ used_there is_control control_wants us (no_undriven e))
    where
      output_wants : (r : Role) → is_output r ≡ true → wants_driver r ≡ true
      output_wants Input e = absurd (false_true e)
      output_wants ClockInput e = absurd (false_true e)
      output_wants Output e = refl
      output_wants CoverInput e = absurd (false_true e)
      output_wants CoverOutput e = absurd (false_true e)
      output_wants LatchInput e = absurd (false_true e)
      output_wants LatchOutput e = absurd (false_true e)
      output_wants Control e = absurd (false_true e)

      cover_wants : (r : Role) → is_cover_input r ≡ true → wants_driver r ≡ true
      cover_wants Input e = absurd (false_true e)
      cover_wants ClockInput e = absurd (false_true e)
      cover_wants Output e = absurd (false_true e)
      cover_wants CoverInput e = refl
      cover_wants CoverOutput e = absurd (false_true e)
      cover_wants LatchInput e = absurd (false_true e)
      cover_wants LatchOutput e = absurd (false_true e)
      cover_wants Control e = absurd (false_true e)

      latch_wants : (r : Role) → is_latch_input r ≡ true → wants_driver r ≡ true
      latch_wants Input e = absurd (false_true e)
      latch_wants ClockInput e = absurd (false_true e)
      latch_wants Output e = absurd (false_true e)
      latch_wants CoverInput e = absurd (false_true e)
      latch_wants CoverOutput e = absurd (false_true e)
      latch_wants LatchInput e = refl
      latch_wants LatchOutput e = absurd (false_true e)
      latch_wants Control e = absurd (false_true e)

      control_wants : (r : Role) → is_control r ≡ true → wants_driver r ≡ true
      control_wants Input e = absurd (false_true e)
      control_wants ClockInput e = absurd (false_true e)
      control_wants Output e = absurd (false_true e)
      control_wants CoverInput e = absurd (false_true e)
      control_wants CoverOutput e = absurd (false_true e)
      control_wants LatchInput e = absurd (false_true e)
      control_wants LatchOutput e = absurd (false_true e)
      control_wants Control e = refl
