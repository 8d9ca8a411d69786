-- The draft of lines without fault, by definition.
use Rattle.std.proofs.Common.{◌≡◌, ◌≢◌, ℕ, ◌<◌, ◌≤◌, List, [], ◌∷◌, ◌++◌, map, filter, length, Bool, true, false, ◌&&◌, ◌||◌, inl, inr, refl, sym, ◌∙◌, ap, subst, arith, append_assoc, Option, None, Some, All}
use Rattle.std.specs.Prelude.{if◌then◌else◌, codes, IfSome, ◌==◌}
use Rattle.std.specs.Option.{option_map}
use Rattle.std.specs.List.{list_any}
use Rattle.std.proofs.lemmas.Bool.Decides.{eqb_tells}
use Rattle.std.proofs.lemmas.List.Elements.{All-nil, All-cons, All-append}
use Rattle.std.proofs.lemmas.List.{map-append}
use Rattle.blif_reader.proofs.TokenLaws.{spelled}
use Rattle.rm_model.specs.Words.{is_word, literal_byte, kind_word}
use Rattle.rm_model.specs.Value.{is_among}
use Rattle.rm_model.specs.WellFormed.{IsWellFormedCover}
use Rattle.rm_model.specs.declared.parts.Literal.{Literal}
use Rattle.rm_model.specs.declared.parts.Literal.TheVariants.{Zero, One, Any}
use Rattle.rm_model.specs.declared.parts.LatchKind.{LatchKind}
use Rattle.rm_model.specs.declared.parts.LatchKind.TheVariants.{Fe, Re, Ah, Al, As}
use Rattle.rm_model.specs.declared.parts.Timing.{Timing}
use Rattle.rm_model.specs.declared.parts.Cover.{Cover}
use Rattle.rm_model.specs.declared.parts.Latch.{Latch as LatchPart}
use Rattle.blif_lines.specs.Layout.{Spot, Logical, words_in, has_words}
use Rattle.blif_format.specs.Text.{Line, control_word, timing_words, init_words, latch_words, cover_words}
use Rattle.blif_format.specs.Uses.{command_of}
use Rattle.blif_format.specs.declared.words.Command.{Command}
use Rattle.blif_format.specs.declared.words.Command.TheVariants.{Model, Inputs, Outputs, Clock, Names, Latch, End}
use Rattle.blif_format.specs.FirstFault.{OpenCover as SaidCover, or_else, flaw_fault, row_fault, words_fault, Said, nothing_said, after_line, said_by, lines_fault, latch_types, init_values, is_literal, cover_names}
use Rattle.blif_reader.specs.Rows.{cover_for}
use Rattle.blif_reader.specs.Lines.{IsLatchLine, are_literals}
use Rattle.blif_reader.specs.Inner.Drafts.{opt_list, all_covers, RowsAre, CurrentIs, IsDraft, given_name, given_inputs, given_outputs, given_clocks, given_latches, given_covers, Changes, IsKnown, AddsRow}
use Rattle.blif_reader.specs.Words.{IsFitLatch}
use Rattle.blif_reader.specs.declared.draft.Draft.{Draft}
use Rattle.blif_reader.proofs.Compared.{word_tells}
use Rattle.blif_reader.proofs.RowLaws.{IsRow, adds_row, current_rows, first_none, has_row, inputs_before, last_spot, row_spots, second_none}
use Rattle.blif_reader.proofs.ShapeLaws.{new_cover, new_words, new_open}
use Rattle.blif_reader.proofs.KnownLaws.{command_added, row_added}
use Rattle.rm_base.specs.Words.{Word}

-- LATCHES
abbrev kind_from : Word → LatchKind
kind_from w = if is_word (codes "fe") w then Fe else (if is_word (codes "re") w then Re else (if is_word (codes "ah") w then Ah else (if is_word (codes "al") w then Al else As)))

abbrev init_from : Word → ℕ
init_from w = if is_word (codes "0") w then 0 else (if is_word (codes "1") w then 1 else (if is_word (codes "2") w then 2 else 3))

abbrev control_from : Word → Option Word
control_from w = if is_word (codes "NIL") w then None else Some w

abbrev latch_with : Word → Word → Option Timing → Option ℕ → LatchPart
latch_with a b timing init = record { input = a; output = b; timing = timing; init = init }

abbrev timing_from : Word → Word → Option Timing
timing_from c d = Some (record { kind = kind_from c; control = control_from d })

abbrev latch_from : List Word → LatchPart
latch_from (a ∷ b ∷ []) = latch_with a b None None
latch_from (a ∷ b ∷ c ∷ []) = latch_with a b None (Some (init_from c))
latch_from (a ∷ b ∷ c ∷ d ∷ []) = latch_with a b (timing_from c d) None
latch_from (a ∷ b ∷ c ∷ d ∷ e ∷ ws) = latch_with a b (timing_from c d) (Some (init_from e))
latch_from ws = latch_with [] [] None None

either_word : (P : Type 0) (x w : Word) (rest : Bool) → (is_word w x || rest) ≡ true → (is_word x w ≡ true → x ≡ w → P) → (is_word x w ≡ false → rest ≡ true → P) → P
either_word P x w rest e f g = elim (word_tells x w) [
  | inl t ↦ f t.0 t.1
  | inr t ↦ elim (word_tells w x) [ inl u ↦ absurd (t.1 (sym u.1)) | inr u ↦ g t.0 (ap (λ b. b || rest) (sym u.0) ∙ e) ]
]

kind_is : (w : Word) → is_among latch_types w ≡ true → kind_word (kind_from w) ≡ w
kind_is w e =
    either_word (kind_word (kind_from w) ≡ w) (codes "fe") w (list_any (is_word w) (codes "re" ∷ codes "ah" ∷ codes "al" ∷ codes "as" ∷ [])) e (λ h s. ap kind_word (first (kind_from w) h) ∙ s)
    (λ n1 e1. either_word (kind_word (kind_from w) ≡ w) (codes "re") w (list_any (is_word w) (codes "ah" ∷ codes "al" ∷ codes "as" ∷ [])) e1 (λ h s. (rw (n1, h) s))
    (λ n2 e2. either_word (kind_word (kind_from w) ≡ w) (codes "ah") w (list_any (is_word w) (codes "al" ∷ codes "as" ∷ [])) e2 (λ h s. (rw (n1, n2, h) s))
    (λ n3 e3. either_word (kind_word (kind_from w) ≡ w) (codes "al") w (list_any (is_word w) (codes "as" ∷ [])) e3 (λ h s. (rw (n1, n2, n3, h) s))
    (λ n4 e4. either_word (kind_word (kind_from w) ≡ w) (codes "as") w false e4 (λ h s. (rw (n1, n2, n3, n4) s)) (λ n5 e5. absurd (never e5))))))
  where
    never : false ≡ true → ⊥
    never z = cc

    first : (k : LatchKind) → is_word (codes "fe") w ≡ true → kind_from w ≡ Fe
    first k h = ap (λ (b : Bool). if b then Fe else (if is_word (codes "re") w then Re else (if is_word (codes "ah") w then Ah else (if is_word (codes "al") w then Al else As)))) h

init_is : (w : Word) → is_among init_values w ≡ true → (init_words (Some (init_from w)) ≡ w ∷ []) × (init_from w ≤ 3)
init_is w e =
    either_word ((init_words (Some (init_from w)) ≡ w ∷ []) × (init_from w ≤ 3)) (codes "0") w (list_any (is_word w) (codes "1" ∷ codes "2" ∷ codes "3" ∷ [])) e (λ h s. rw h (ap (λ (x : Word). x ∷ []) s, omega arith))
    (λ n1 e1. either_word ((init_words (Some (init_from w)) ≡ w ∷ []) × (init_from w ≤ 3)) (codes "1") w (list_any (is_word w) (codes "2" ∷ codes "3" ∷ [])) e1 (λ h s. rw (n1, h) (ap (λ (x : Word). x ∷ []) s, omega arith))
    (λ n2 e2. either_word ((init_words (Some (init_from w)) ≡ w ∷ []) × (init_from w ≤ 3)) (codes "2") w (list_any (is_word w) (codes "3" ∷ [])) e2 (λ h s. rw (n1, n2, h) (ap (λ (x : Word). x ∷ []) s, omega arith))
    (λ n3 e3. either_word ((init_words (Some (init_from w)) ≡ w ∷ []) × (init_from w ≤ 3)) (codes "3") w false e3 (λ h s. rw (n1, n2, n3) (ap (λ (x : Word). x ∷ []) s, omega arith)) (λ n4 e4. absurd (never e4)))))
  where
    never : false ≡ true → ⊥
    never z = cc

control_is : (w : Word) → (control_word (control_from w) ≡ w) × IfSome (control_from w) (λ x. x ≢ codes "NIL")
control_is w = elim (word_tells (codes "NIL") w) [
  | inl h ↦ rw h.0 (h.1, tt)
  | inr h ↦ rw h.0 (refl, λ e. h.1 (sym e))
]

record IsLatchOf (ws : List Word) (l : LatchPart) : Type 0 where
  words : latch_words l ≡ ws
  fit : IsFitLatch l

timed : (a b c d : Word) → is_among latch_types c ≡ true → (timing_words (timing_from c d) ≡ c ∷ d ∷ []) × IfSome (control_from d) (λ x. x ≢ codes "NIL")
timed a b c d h = (ap (λ (x : Word). x ∷ control_word (control_from d) ∷ []) (kind_is c h) ∙ ap (λ (x : Word). c ∷ x ∷ []) (control_is d).0, (control_is d).1)

latch_is : (ws : List Word) → IsLatchLine ws → IsLatchOf ws (latch_from ws)
latch_is [] h = absurd h
latch_is (a ∷ []) h = absurd h
latch_is (a ∷ b ∷ []) h = record { words = refl; fit = (tt, tt) }
latch_is (a ∷ b ∷ c ∷ []) h = record { words = ap (λ (x : List Word). a ∷ b ∷ x) (init_is c h).0; fit = ((init_is c h).1, tt) }
latch_is (a ∷ b ∷ c ∷ d ∷ []) h = record { words = ap (λ (x : List Word). (a ∷ b ∷ x) ++ []) (timed a b c d h).0; fit = (tt, (timed a b c d h).1) }
latch_is (a ∷ b ∷ c ∷ d ∷ e ∷ []) h = record { words = ap (λ (x : List Word). (a ∷ b ∷ x) ++ init_words (Some (init_from e))) (timed a b c d h.0).0 ∙ ap (λ (x : List Word). (a ∷ b ∷ c ∷ d ∷ []) ++ x) (init_is e h.1).0; fit = ((init_is e h.1).1, (timed a b c d h.0).1) }
latch_is (a ∷ b ∷ c ∷ d ∷ e ∷ f ∷ ws) h = absurd h

-- COVERS
names_back : (ws : List Word) → 0 < length ws → (cover_names ws).inputs ++ (cover_names ws).output ∷ [] ≡ ws
names_back [] h = absurd (omega arith)
names_back (x ∷ []) h = refl
names_back (x ∷ y ∷ xs) h = ap (λ ys. x ∷ ys) (names_back (y ∷ xs) (omega arith))

names_rows : (ws : List Word) → (cover_names ws).rows ≡ []
names_rows [] = refl
names_rows (x ∷ []) = refl
names_rows (x ∷ y ∷ xs) = names_rows (y ∷ xs)

names_on : (ws : List Word) → (cover_names ws).on ≡ true
names_on [] = refl
names_on (x ∷ []) = refl
names_on (x ∷ y ∷ xs) = names_on (y ∷ xs)

-- COMMANDS
abbrev latches_from : Command → List Word → List LatchPart
latches_from Latch ws = latch_from ws ∷ []
latches_from k ws = []

abbrev cover_from : Command → List Word → Option Cover
cover_from Names ws = Some (cover_names ws)
cover_from k ws = None

abbrev draft_with : Command → List Word → Draft → Draft
draft_with k ws d = record {
  name = given_name k ws d.name;
  inputs = d.inputs ++ given_inputs k ws;
  clocks = d.clocks ++ given_clocks k ws;
  outputs = d.outputs ++ given_outputs k ws;
  latches = d.latches ++ latches_from k ws;
  covers = all_covers d;
  current = cover_from k ws;
}

-- what one command gives
record IsGiven (k : Command) (ws : List Word) : Type 0 where
  latches : map latch_words (latches_from k ws) ≡ given_latches k ws
  covers : map cover_words (opt_list (cover_from k ws)) ≡ given_covers k ws
  current : CurrentIs (cover_for k (length ws)) (cover_from k ws)
  formed : All IsWellFormedCover (opt_list (cover_from k ws))
  fit : All IsFitLatch (latches_from k ws)

nothing_given : (k : Command) (ws : List Word) → map latch_words (latches_from k ws) ≡ given_latches k ws → cover_from k ws ≡ None → latches_from k ws ≡ [] → map cover_words (opt_list (cover_from k ws)) ≡ given_covers k ws → CurrentIs (cover_for k (length ws)) (cover_from k ws) → IsGiven k ws
nothing_given k ws l c n e i = record {
  latches = l;
  covers = e;
  current = i;
  formed = subst (λ (o : Option Cover). All IsWellFormedCover (opt_list o)) (sym c) (All-nil IsWellFormedCover);
  fit = subst (All IsFitLatch) (sym n) (All-nil IsFitLatch);
}

is_given : (k : Command) (ws : List Word) → IsKnown k ws → IsGiven k ws
is_given Model ws h = nothing_given Model ws refl refl refl refl tt
is_given Inputs ws h = nothing_given Inputs ws refl refl refl refl tt
is_given Outputs ws h = nothing_given Outputs ws refl refl refl refl tt
is_given Clock ws h = nothing_given Clock ws refl refl refl refl tt
is_given End ws h = nothing_given End ws refl refl refl refl tt
is_given Names ws h = record {
  latches = refl;
  covers = ap (λ (x : Line × List Line). x ∷ []) (new_words (cover_names ws) ws (names_back ws h) (names_rows ws));
  current = new_open (cover_names ws) ws (names_back ws h) (names_rows ws);
  formed = All-cons IsWellFormedCover (cover_names ws) [] (new_cover (cover_names ws) (names_rows ws) (names_on ws)) (All-nil IsWellFormedCover);
  fit = All-nil IsFitLatch;
}
is_given Latch ws h = let l : IsLatchOf ws (latch_from ws) = latch_is ws h in record {
  latches = ap (λ (x : List Word). x ∷ []) l.words;
  covers = refl;
  current = tt;
  formed = All-nil IsWellFormedCover;
  fit = All-cons IsFitLatch (latch_from ws) [] l.fit (All-nil IsFitLatch);
}

changes : (k : Command) (ws : List Word) (d : Draft) → IsKnown k ws → Changes k ws d (draft_with k ws d)
changes k ws d h = by (is_given k ws h)
  where
    by : IsGiven k ws → Changes k ws d (draft_with k ws d)
    by g = record {
      name = refl;
      inputs = refl;
      outputs = refl;
      clocks = refl;
      latches = map-append latch_words d.latches (latches_from k ws) ∙ ap (λ (xs : List (List Word)). map latch_words d.latches ++ xs) g.latches;
      covers = map-append cover_words (all_covers d) (opt_list (cover_from k ws)) ∙ ap (λ (xs : List (Line × List Line)). map cover_words (all_covers d) ++ xs) g.covers;
      current = g.current;
      shaped = λ s. record { covers = All-append IsWellFormedCover (all_covers d) (opt_list (cover_from k ws)) s.covers g.formed; latches = All-append IsFitLatch d.latches (latches_from k ws) s.latches g.fit };
    }

-- ROWS
abbrev literal_from : ℕ → Literal
literal_from b = if b == 48 then Zero else (if b == 49 then One else Any)

literal_is : (b : ℕ) → is_literal b ≡ true → literal_byte (literal_from b) ≡ b
literal_is b e = elim (eqb_tells b 48) [
  | inl t ↦ rw t.0 (sym t.1)
  | inr t ↦ elim (eqb_tells b 49) [
    | inl u ↦ rw (t.0, u.0) (sym u.1)
    | inr u ↦ elim (eqb_tells b 45) [ inl v ↦ rw (t.0, u.0) (sym v.1) | inr v ↦ let wrong : false ≡ true = rw (t.0, u.0, v.0) at e in cc ]
  ]
]

literals_are : (w : Word) → are_literals w ≡ true → map literal_byte (map literal_from w) ≡ w
literals_are [] e = refl
literals_are (b ∷ bs) e = ap (λ (x : ℕ). x ∷ map literal_byte (map literal_from bs)) (literal_is b (and_one (is_literal b) (are_literals bs) e)) ∙ ap (λ (xs : Word). b ∷ xs) (literals_are bs (and_two (is_literal b) (are_literals bs) e))
  where
    and_one : (a b : Bool) → (a && b) ≡ true → a ≡ true
    and_one true b e = refl
    and_one false b e = e

    and_two : (a b : Bool) → (a && b) ≡ true → b ≡ true
    and_two true b e = e
    and_two false b e = cc

abbrev cover_with : Spot → List Spot → Cover → Cover
cover_with s ss c = record { inputs = c.inputs; output = c.output; on = is_word (codes "1") (last_spot s ss).word; rows = c.rows ++ map literal_from (inputs_before s.word ss) ∷ [] }

adds : (s : Spot) (ss : List Spot) (d : Draft) (o : SaidCover) → CurrentIs (Some o) d.current → row_fault o s ss ≡ None → AddsRow s ss o d (record d { current = option_map (cover_with s ss) d.current })
adds s ss d o are none = at d.current refl
  where
    at : (current : Option Cover) → d.current ≡ current → AddsRow s ss o d (record d { current = option_map (cover_with s ss) d.current })
    at None e = absurd (subst (CurrentIs (Some o)) e are)
    at (Some c) e =
        let rows : RowsAre o c = current_rows o d.current c e are in
        let r : IsRow o s ss (inputs_before s.word ss) (is_word (codes "1") (last_spot s ss).word) = row_spots o s ss (is_word (codes "1") (last_spot s ss).word) refl none in
        adds_row s ss o c (cover_with s ss c) d (record d { current = option_map (cover_with s ss) d.current })
        (has_row o s ss (inputs_before s.word ss) (is_word (codes "1") (last_spot s ss).word) c (cover_with s ss c) (map literal_from (inputs_before s.word ss)) r rows (literals_are (inputs_before s.word ss) r.literals) refl refl refl refl)
        e (ap (λ (x : Option Cover). record d { current = option_map (cover_with s ss) x }) e)

line_exists : (said : Said) (lines : List Line) (d : Draft) (s : Spot) (ss : List Spot) → IsDraft said lines d → words_fault said (s ∷ ss) ≡ None → (e : Draft) × IsDraft (after_line said (s ∷ ss)) (lines ++ (s.word ∷ spelled ss) ∷ []) e
line_exists said lines d s ss is none = at (command_of s.word) refl
  where
    at : (o : Option Command) → command_of s.word ≡ o → (e : Draft) × IsDraft (after_line said (s ∷ ss)) (lines ++ (s.word ∷ spelled ss) ∷ []) e
    at (Some k) h = (draft_with k (spelled ss) d, command_added said lines d (draft_with k (spelled ss) d) s ss k is none h (changes k (spelled ss) d))
    at None h = (record d { current = option_map (cover_with s ss) d.current }, row_added said lines d (record d { current = option_map (cover_with s ss) d.current }) s ss is none h (adds s ss d))

lines_exist : (said : Said) (lines : List Line) (d : Draft) (ls : List Logical) → lines_fault said ls ≡ None → IsDraft said lines d → (e : Draft) × IsDraft (said_by said ls) (lines ++ filter has_words (map words_in ls)) e
lines_exist said lines d [] none is = (d, subst (λ (xs : List Line). IsDraft said xs d) (nothing lines) is)
  where
    nothing : (xs : List Line) → xs ≡ xs ++ []
    nothing [] = refl
    nothing (x ∷ xs) = ap (λ ys. x ∷ ys) (nothing xs)
lines_exist said lines d (l ∷ ls) none is = at l.tokens refl (λ said lines d. lines_exist said lines d ls)
  where
    words : or_else (words_fault said l.tokens) (lines_fault (after_line said l.tokens) ls) ≡ None
    words = second_none (flaw_fault l.flaw) (or_else (words_fault said l.tokens) (lines_fault (after_line said l.tokens) ls)) none

    at : (ts : List Spot) → l.tokens ≡ ts → ((said : Said) (lines : List Line) (d : Draft) → lines_fault said ls ≡ None → IsDraft said lines d → (e : Draft) × IsDraft (said_by said ls) (lines ++ filter has_words (map words_in ls)) e) → (e : Draft) × IsDraft (said_by (after_line said l.tokens) ls) (lines ++ filter has_words (words_in l ∷ map words_in ls)) e
    at [] e ih = let n : or_else (words_fault said []) (lines_fault (after_line said []) ls) ≡ None = rw e at words in rw e (ih said lines d n is)
    at (s ∷ ss) e ih =
        let n : or_else (words_fault said (s ∷ ss)) (lines_fault (after_line said (s ∷ ss)) ls) ≡ None = rw e at words in
        let one = line_exists said lines d s ss is (first_none (words_fault said (s ∷ ss)) (lines_fault (after_line said (s ∷ ss)) ls) n) in
        let rest = ih (after_line said (s ∷ ss)) (lines ++ (s.word ∷ spelled ss) ∷ []) one.0 (second_none (words_fault said (s ∷ ss)) (lines_fault (after_line said (s ∷ ss)) ls) n) one.1 in
        rw e (rest.0, subst (λ (xs : List Line). IsDraft (said_by (after_line said (s ∷ ss)) ls) xs rest.0) (append_assoc lines ((s.word ∷ spelled ss) ∷ []) (filter has_words (map words_in ls))) rest.1)

empty_draft : IsDraft nothing_said [] (record { name = []; inputs = []; clocks = []; outputs = []; latches = []; covers = []; current = None })
empty_draft = record { begin = refl; ending = refl; commands = refl; opened = λ h. refl; inputs = refl; outputs = refl; clocks = refl; latches = refl; covers = refl; current = tt; shaped = record { covers = All-nil IsWellFormedCover; latches = All-nil IsFitLatch } }

-- lines without fault have a draft
pub draft_exists : (ls : List Logical) → lines_fault nothing_said ls ≡ None → (d : Draft) × IsDraft (said_by nothing_said ls) (filter has_words (map words_in ls)) d
draft_exists ls none = lines_exist nothing_said [] (record { name = []; inputs = []; clocks = []; outputs = []; latches = []; covers = []; current = None }) ls none empty_draft
