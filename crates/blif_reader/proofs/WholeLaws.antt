-- The model of a text without fault is well formed.
use Rattle.std.proofs.Common.{◌≡◌, ◌≢◌, ◌≤◌, ℕ, List, [], ◌∷◌, ◌++◌, map, filter, Bool, true, false, not, ◌&&◌, refl, sym, ◌∙◌, ap, subst, Option, None, Some}
use Rattle.std.specs.Prelude.{if◌then◌else◌, codes, IfSome}
use Rattle.std.specs.List.{filter_map, flat_map, list_all}
use Rattle.std.proofs.lemmas.List.Folds.{list_all-append}
use Rattle.std.proofs.lemmas.List.Elements.{All-weaker}
use Rattle.rm_model.specs.Words.{is_word}
use Rattle.rm_model.specs.Value.{is_among, source_names, control_of}
use Rattle.rm_model.specs.WellFormed.{is_token, driven_names, used_names, names_of, is_distinct, IsWellFormed}
use Rattle.rm_model.specs.declared.parts.Cover.{Cover}
use Rattle.rm_model.specs.declared.parts.Latch.{Latch as LatchPart}
use Rattle.rm_model.specs.declared.parts.Model.{Model as CircuitModel}
use Rattle.blif_lines.specs.Layout.{Flaw, BadByteAt, OpenJoinAt, Logical, words_in, has_words, layout, lines_of}
use Rattle.blif_format.specs.Text.{Line}
use Rattle.blif_format.specs.Uses.{command_of, names_in, is_clock, is_input, is_output}
use Rattle.blif_format.specs.declared.words.Command.{Command}
use Rattle.blif_format.specs.declared.words.Command.TheVariants.{Model, Inputs, Outputs, Clock, Names, Latch, End}
use Rattle.blif_format.specs.declared.words.Role.{Role}
use Rattle.blif_format.specs.declared.words.Role.TheVariants.{Input, ClockInput, Output, CoverInput, CoverOutput, LatchInput, LatchOutput, Control}
use Rattle.blif_format.specs.FirstFault.{or_else, fault, flaw_fault, words_fault, Said, nothing_said, after_line, said_by, lines_fault, is_cover_input, undriven_fault}
use Rattle.blif_format.specs.declared.refusal.FaultKind.TheVariants.{BadByte, OpenJoin}
use Rattle.blif_reader.specs.Inner.Tally.{is_latch, is_cover}
use Rattle.blif_reader.specs.Inner.Drafts.{Begins, IsDraft, model_in}
use Rattle.blif_reader.specs.Words.{IsFitLatch}
use Rattle.blif_reader.specs.declared.draft.Draft.{Draft}
use Rattle.blif_reader.proofs.RowLaws.{first_none, second_none}
use Rattle.blif_reader.proofs.CleanLaws.{IsClean, nothing_clean, clean_lines}
use Rattle.blif_reader.proofs.NameLaws.{is_latch_input, is_control, all_uses, said_uses, uses_list, line_picks, picks_if, list_picks, cover_picks, latch_picks, picks}
use Rattle.blif_reader.proofs.FormLaws.{NamesAre, names_are, driven_once, used_driven}
use Rattle.blif_reader.specs.Fit.{AreTokens}
use Rattle.blif_reader.proofs.TokenLaws.{layout_tokens}
use Rattle.rm_base.proofs.Public.{and_first, and_second}
use Rattle.rm_base.specs.Words.{Word}

module _ (p : Word → Bool) where
  all_both : (xs ys : List Word) → list_all p xs ≡ true → list_all p ys ≡ true → list_all p (xs ++ ys) ≡ true
  all_both xs ys h k = list_all-append p xs ys ∙ ap (λ b. b && list_all p ys) h ∙ k

  all_if : (t : Bool) (w : Word) → p w ≡ true → list_all p (if t then w ∷ [] else []) ≡ true
  all_if true w h = ap (λ b. b && true) h
  all_if false w h = refl

  all_list : (t : Bool) (ws : List Word) → list_all p ws ≡ true → list_all p (list_picks t ws) ≡ true
  all_list true ws h = h
  all_list false ws h = refl

  head_of : (w : Word) (ws : List Word) → list_all p (w ∷ ws) ≡ true → p w ≡ true
  head_of w ws h = and_first (p w) (list_all p ws) h

  tail_of : (w : Word) (ws : List Word) → list_all p (w ∷ ws) ≡ true → list_all p ws ≡ true
  tail_of w ws h = and_second (p w) (list_all p ws) h

  all_cover : (t : Role → Bool) (ws : List Word) → list_all p ws ≡ true → list_all p (cover_picks t ws) ≡ true
  all_cover t [] h = refl
  all_cover t (w ∷ []) h = all_if (t CoverOutput) w (head_of w [] h)
  all_cover t (w ∷ v ∷ ws) h = all_both (if t CoverInput then w ∷ [] else []) (cover_picks t (v ∷ ws)) (all_if (t CoverInput) w (head_of w (v ∷ ws) h)) (all_cover t (v ∷ ws) (tail_of w (v ∷ ws) h))

  all_control : (t : Role → Bool) (b : Bool) (w : Word) → p w ≡ true → list_all p (if b then [] else (if t Control then w ∷ [] else [])) ≡ true
  all_control t true w h = refl
  all_control t false w h = all_if (t Control) w h

  all_latch : (t : Role → Bool) (ws : List Word) → list_all p ws ≡ true → list_all p (latch_picks t ws) ≡ true
  all_latch t [] h = refl
  all_latch t (a ∷ []) h = all_if (t LatchInput) a (head_of a [] h)
  all_latch t (a ∷ b ∷ []) h = all_both (if t LatchInput then a ∷ [] else []) (if t LatchOutput then b ∷ [] else []) (all_if (t LatchInput) a (head_of a (b ∷ []) h)) (all_if (t LatchOutput) b (head_of b [] (tail_of a (b ∷ []) h)))
  all_latch t (a ∷ b ∷ c ∷ []) h = all_both (if t LatchInput then a ∷ [] else []) (if t LatchOutput then b ∷ [] else []) (all_if (t LatchInput) a (head_of a (b ∷ c ∷ []) h)) (all_if (t LatchOutput) b (head_of b (c ∷ []) (tail_of a (b ∷ c ∷ []) h)))
  all_latch t (a ∷ b ∷ c ∷ d ∷ ws) h =
      let rest : list_all p (b ∷ c ∷ d ∷ ws) ≡ true = tail_of a (b ∷ c ∷ d ∷ ws) h in
      let last : list_all p (d ∷ ws) ≡ true = tail_of c (d ∷ ws) (tail_of b (c ∷ d ∷ ws) rest) in
      all_both (if t LatchInput then a ∷ [] else []) ((if t LatchOutput then b ∷ [] else []) ++ (if is_word (codes "NIL") d then [] else (if t Control then d ∷ [] else []))) (all_if (t LatchInput) a (head_of a (b ∷ c ∷ d ∷ ws) h))
      (all_both (if t LatchOutput then b ∷ [] else []) (if is_word (codes "NIL") d then [] else (if t Control then d ∷ [] else [])) (all_if (t LatchOutput) b (head_of b (c ∷ d ∷ ws) rest)) (all_control t (is_word (codes "NIL") d) d (head_of d ws last)))

  all_picks : (t : Role → Bool) (k : Command) (ws : List Word) → list_all p ws ≡ true → list_all p (picks t k ws) ≡ true
  all_picks t Model ws h = refl
  all_picks t Inputs ws h = all_list (t Input) ws h
  all_picks t Outputs ws h = all_list (t Output) ws h
  all_picks t Clock ws h = all_list (t ClockInput) ws h
  all_picks t Names ws h = all_cover t ws h
  all_picks t Latch ws h = all_latch t ws h
  all_picks t End ws h = refl

  all_line : (t : Role → Bool) (l : Line) → list_all p l ≡ true → list_all p (line_picks t l) ≡ true
  all_line t [] h = refl
  all_line t (w ∷ ws) h = at (command_of w)
    where
      at : (o : Option Command) → list_all p (picks_if t o ws) ≡ true
      at None = refl
      at (Some k) = all_picks t k ws (tail_of w ws h)

  all_lines : (t : Role → Bool) (ls : List Line) → list_all (list_all p) ls ≡ true → list_all p (flat_map (line_picks t) ls) ≡ true
  all_lines t [] h = refl
  all_lines t (l ∷ ls) h = all_both (line_picks t l) (flat_map (line_picks t) ls) (all_line t l (and_first (list_all p l) (list_all (list_all p) ls) h)) (all_lines t ls (and_second (list_all p l) (list_all (list_all p) ls) h))

  all_others : (taken xs : List Word) → list_all p xs ≡ true → list_all p (filter (λ x. not (is_among taken x)) xs) ≡ true
  all_others taken [] h = refl
  all_others taken (x ∷ xs) h = at (is_among taken x) (all_others taken xs (tail_of x xs h))
    where
      at : (b : Bool) → list_all p (filter (λ y. not (is_among taken y)) xs) ≡ true → list_all p (if not b then x ∷ filter (λ y. not (is_among taken y)) xs else filter (λ y. not (is_among taken y)) xs) ≡ true
      at true ih = ih
      at false ih = ap (λ b. b && list_all p (filter (λ y. not (is_among taken y)) xs)) (head_of x xs h) ∙ ih

  title_all : (name : Word) (body : List Line) (ls : List Line) → ls ≡ (codes ".model" ∷ name ∷ []) ∷ body → list_all (list_all p) ls ≡ true → p name ≡ true
  title_all name body ls e h =
      let whole : list_all (list_all p) ((codes ".model" ∷ name ∷ []) ∷ body) ≡ true = ap (list_all (list_all p)) (sym e) ∙ h in
      head_of name [] (tail_of (codes ".model") (name ∷ []) (and_first (list_all p (codes ".model" ∷ name ∷ [])) (list_all (list_all p) body) whole))

  -- every name of the model is a word of the lines
  pub all_names : (ls : List Logical) (m : CircuitModel) → NamesAre (all_uses ls) m → p m.name ≡ true → list_all (list_all p) (filter has_words (map words_in ls)) ≡ true → list_all p (names_of m) ≡ true
  all_names ls m n name h =
      all_both (m.name ∷ driven_names m) (m.clocks ++ used_names m)
      (ap (λ b. b && list_all p (driven_names m)) name ∙ all_both (source_names m) (map (λ (c : Cover). c.output) m.covers)
      (all_both (m.inputs ++ filter (λ x. not (is_among m.inputs x)) m.clocks) (map (λ (l : LatchPart). l.output) m.latches)
      (all_both m.inputs (filter (λ x. not (is_among m.inputs x)) m.clocks) (of is_input m.inputs n.inputs) (all_others m.inputs m.clocks (of is_clock m.clocks n.clocks)))
      (of is_latch (map (λ (l : LatchPart). l.output) m.latches) n.latches))
      (of is_cover (map (λ (c : Cover). c.output) m.covers) n.covers))
      (all_both m.clocks (used_names m) (of is_clock m.clocks n.clocks)
      (all_both ((m.outputs ++ flat_map (λ (c : Cover). c.inputs) m.covers) ++ map (λ (l : LatchPart). l.input) m.latches) (filter_map control_of m.latches)
      (all_both (m.outputs ++ flat_map (λ (c : Cover). c.inputs) m.covers) (map (λ (l : LatchPart). l.input) m.latches)
      (all_both m.outputs (flat_map (λ (c : Cover). c.inputs) m.covers) (of is_output m.outputs n.outputs) (of is_cover_input (flat_map (λ (c : Cover). c.inputs) m.covers) n.cover_inputs))
      (of is_latch_input (map (λ (l : LatchPart). l.input) m.latches) n.latch_inputs))
      (of is_control (filter_map control_of m.latches) n.controls)))
    where
      of : (t : Role → Bool) (xs : List Word) → names_in t (all_uses ls) ≡ xs → list_all p xs ≡ true
      of t xs e = ap (list_all p) (sym e ∙ uses_list t ls) ∙ all_lines t (filter has_words (map words_in ls)) h

-- LINES WITHOUT FAULT
no_flaw : (o : Option Flaw) → flaw_fault o ≡ None → o ≡ None
no_flaw None e = refl
no_flaw (Some (BadByteAt place)) e = let wrong : fault BadByte place ≡ None = e in cc
no_flaw (Some (OpenJoinAt place)) e = let wrong : fault OpenJoin place ≡ None = e in cc

token_lines : (said : Said) (ls : List Logical) → lines_fault said ls ≡ None → AreTokens ls → list_all (list_all is_token) (filter has_words (map words_in ls)) ≡ true
token_lines said [] e h = refl
token_lines said (l ∷ ls) e h =
    at (words_in l) (h.0 (no_flaw l.flaw (first_none (flaw_fault l.flaw) (or_else (words_fault said l.tokens) (lines_fault (after_line said l.tokens) ls)) e)))
    (token_lines (after_line said l.tokens) ls (second_none (words_fault said l.tokens) (lines_fault (after_line said l.tokens) ls) (second_none (flaw_fault l.flaw) (or_else (words_fault said l.tokens) (lines_fault (after_line said l.tokens) ls)) e)) h.1)
  where
    at : (ws : Line) → list_all is_token ws ≡ true → list_all (list_all is_token) (filter has_words (map words_in ls)) ≡ true → list_all (list_all is_token) (filter has_words (ws ∷ map words_in ls)) ≡ true
    at [] w ih = ih
    at (x ∷ ws) w ih = ap (λ b. b && list_all (list_all is_token) (filter has_words (map words_in ls))) w ∙ ih

-- what is known of a text whose lines have no fault
pub record IsSound (text : List ℕ) (d : Draft) : Type 0 where
  pub names : NamesAre (all_uses (layout text)) (model_in d)
  pub clean : IsClean (all_uses (layout text))
  pub tokens : list_all (list_all is_token) (lines_of text) ≡ true

pub sound : (text : List ℕ) (said : Said) (d : Draft) → lines_fault nothing_said (layout text) ≡ None → IsDraft said (lines_of text) d → IsSound text d
sound text said d none is = record {
  names = names_are (layout text) (model_in d) is.inputs is.outputs is.clocks is.latches is.covers is.shaped.latches;
  clean = subst IsClean (said_uses nothing_said (layout text)) (clean_lines nothing_said (layout text) none nothing_clean);
  tokens = token_lines nothing_said (layout text) none (layout_tokens text);
}

pub well_formed : (text : List ℕ) (said : Said) (d : Draft) → lines_fault nothing_said (layout text) ≡ None → undriven_fault (said_by nothing_said (layout text)).uses ≡ None → said.began ≡ true → IsDraft said (lines_of text) d → IsWellFormed (model_in d)
well_formed text said d none driven began is = by (sound text said d none is)
  where
    first : Begins true (lines_of text) d.name
    first = subst (λ (t : Bool). Begins t (lines_of text) d.name) began is.begin

    by : IsSound text d → IsWellFormed (model_in d)
    by s = record {
      tokens = all_names is_token (layout text) (model_in d) s.names (title_all is_token d.name first.0 (lines_of text) first.1 s.tokens) s.tokens;
      inputs_once = ap is_distinct (sym s.names.inputs) ∙ s.clean.inputs;
      clocks_once = ap is_distinct (sym s.names.clocks) ∙ s.clean.clocks;
      driven_once = driven_once (all_uses (layout text)) (model_in d) s.names s.clean;
      outputs_once = ap is_distinct (sym s.names.outputs) ∙ s.clean.outputs;
      all_driven = used_driven (all_uses (layout text)) (model_in d) s.names (ap undriven_fault (sym (said_uses nothing_said (layout text))) ∙ driven);
      covers = is.shaped.covers;
      inits = All-weaker IsFitLatch (λ (l : LatchPart). IfSome l.init (λ n. n ≤ 3)) (λ l h. h.0) d.latches is.shaped.latches;
      controls = All-weaker IsFitLatch (λ (l : LatchPart). IfSome (control_of l) (λ x. x ≢ codes "NIL")) (λ l h. h.1) d.latches is.shaped.latches;
    }
