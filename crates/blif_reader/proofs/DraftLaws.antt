-- A draft goes on with the lines.
use Rattle.std.proofs.Common.{◌≡◌, ℕ, List, [], ◌∷◌, ◌++◌, map, filter, length, Bool, true, false, ◌||◌, inl, inr, refl, sym, ◌∙◌, ap, subst, Option, None, Some}
use Rattle.std.specs.Prelude.{if◌then◌else◌, codes, is_some}
use Rattle.blif_lines.specs.Layout.{Spot}
use Rattle.blif_format.specs.Text.{Line, latch_words, cover_words}
use Rattle.blif_format.specs.Grammar.{before_end, begins_with, is_dotted, words_after, words_of, names_lines, is_command, follow, body_of}
use Rattle.blif_format.specs.declared.words.Command.{Command}
use Rattle.blif_format.specs.declared.words.Command.TheVariants.{Model, Inputs, Outputs, Clock, Names, Latch, End}
use Rattle.blif_format.specs.FirstFault.{Said, OpenCover as SaidCover, after_line, with_row, is_dotted as dotted_word}
use Rattle.blif_reader.specs.Rows.{cover_for, ends}
use Rattle.blif_reader.specs.Inner.Drafts.{all_covers, is_open, Begins, Ends, CurrentIs, IsDraft, given_name, given_inputs, given_outputs, given_clocks, given_latches, given_covers, Changes, add_row, AddsRow}
use Rattle.blif_reader.specs.declared.draft.Draft.{Draft}
use Rattle.blif_reader.proofs.Compared.{word_tells}
use Rattle.blif_reader.proofs.LineLaws.{word_for}
use Rattle.blif_reader.proofs.GrammarLaws.{words_more, lines_more, names_more, names_row, follow_more, open_more, before_more}
use Rattle.rm_base.specs.Words.{Word}

abbrev pub is_model : Command → Bool
is_model Model = true
is_model k = false

dot_case : (k : Command) (ws : List Word) → is_dotted (word_for k ∷ ws) ≡ true
dot_case Model ws = refl
dot_case Inputs ws = refl
dot_case Outputs ws = refl
dot_case Clock ws = refl
dot_case Names ws = refl
dot_case Latch ws = refl
dot_case End ws = refl

command_case : (k : Command) (ws : List Word) → is_model k ≡ false → ends k ≡ false → is_command (word_for k ∷ ws) ≡ true
command_case Model ws m e = cc
command_case Inputs ws m e = refl
command_case Outputs ws m e = refl
command_case Clock ws m e = refl
command_case Names ws m e = refl
command_case Latch ws m e = refl
command_case End ws m e = cc

inputs_case : (k : Command) (ws : List Word) → (if begins_with (codes ".inputs") (word_for k ∷ ws) then ws else []) ≡ given_inputs k ws
inputs_case Model ws = refl
inputs_case Inputs ws = refl
inputs_case Outputs ws = refl
inputs_case Clock ws = refl
inputs_case Names ws = refl
inputs_case Latch ws = refl
inputs_case End ws = refl

outputs_case : (k : Command) (ws : List Word) → (if begins_with (codes ".outputs") (word_for k ∷ ws) then ws else []) ≡ given_outputs k ws
outputs_case Model ws = refl
outputs_case Inputs ws = refl
outputs_case Outputs ws = refl
outputs_case Clock ws = refl
outputs_case Names ws = refl
outputs_case Latch ws = refl
outputs_case End ws = refl

clocks_case : (k : Command) (ws : List Word) → (if begins_with (codes ".clock") (word_for k ∷ ws) then ws else []) ≡ given_clocks k ws
clocks_case Model ws = refl
clocks_case Inputs ws = refl
clocks_case Outputs ws = refl
clocks_case Clock ws = refl
clocks_case Names ws = refl
clocks_case Latch ws = refl
clocks_case End ws = refl

latches_case : (k : Command) (ws : List Word) → (if begins_with (codes ".latch") (word_for k ∷ ws) then ws ∷ [] else []) ≡ given_latches k ws
latches_case Model ws = refl
latches_case Inputs ws = refl
latches_case Outputs ws = refl
latches_case Clock ws = refl
latches_case Names ws = refl
latches_case Latch ws = refl
latches_case End ws = refl

covers_case : (k : Command) (ws : List Word) → (if begins_with (codes ".names") (word_for k ∷ ws) then (ws, []) ∷ [] else []) ≡ given_covers k ws
covers_case Model ws = refl
covers_case Inputs ws = refl
covers_case Outputs ws = refl
covers_case Clock ws = refl
covers_case Names ws = refl
covers_case Latch ws = refl
covers_case End ws = refl

end_case : (k : Command) (ws : List Word) → begins_with (codes ".end") (word_for k ∷ ws) ≡ ends k
end_case Model ws = refl
end_case Inputs ws = refl
end_case Outputs ws = refl
end_case Clock ws = refl
end_case Names ws = refl
end_case Latch ws = refl
end_case End ws = refl

open_case : (k : Command) (ws : List Word) (n : ℕ) → begins_with (codes ".names") (word_for k ∷ ws) ≡ is_some (cover_for k n)
open_case Model ws n = refl
open_case Inputs ws n = refl
open_case Outputs ws n = refl
open_case Clock ws n = refl
open_case Names ws n = refl
open_case Latch ws n = refl
open_case End ws n = refl

name_case : (k : Command) (ws : List Word) (name : Word) → is_model k ≡ false → given_name k ws name ≡ name
name_case Model ws name m = cc
name_case Inputs ws name m = refl
name_case Outputs ws name m = refl
name_case Clock ws name m = refl
name_case Names ws name m = refl
name_case Latch ws name m = refl
name_case End ws name m = refl

-- a text that has begun and not ended, as the grammar splits it
pub record IsGoing (lines : List Line) (name : Word) (body : List Line) : Type 0 where
  pub lines_are : lines ≡ (codes ".model" ∷ name ∷ []) ∷ body
  pub whole : before_end lines ≡ lines
  pub body_whole : before_end body ≡ body

tail_of : List Line → List Line
tail_of [] = []
tail_of (l ∷ ls) = ls

pub going : (lines : List Line) (name : Word) → Begins true lines name → Ends false lines → (body : List Line) × IsGoing lines name body
unfolding tail_of
going lines name b e =
    let body_e : before_end b.0 ≡ b.0 = ap tail_of (sym (ap before_end b.1) ∙ e ∙ b.1) in
    (b.0, record { lines_are = b.1; whole = e; body_whole = body_e })

body_is : (lines : List Line) (name : Word) (body : List Line) → IsGoing lines name body → body_of lines ≡ body
body_is lines name body g = ap body_of g.lines_are ∙ g.body_whole

body_more : (lines : List Line) (name : Word) (body : List Line) (l : Line) → IsGoing lines name body → body_of (lines ++ l ∷ []) ≡ (if begins_with (codes ".end") l then body else body ++ l ∷ [])
body_more lines name body l g = ap (λ (ls : List Line). body_of (ls ++ l ∷ [])) g.lines_are ∙ before_more (begins_with (codes ".end")) body l g.body_whole

-- a command that ends nothing
pub command_body : (said : Said) (lines : List Line) (d e : Draft) (s : Spot) (ss : List Spot) (k : Command) (ws : List Word) → IsDraft said lines d → said.began ≡ true → said.ended ≡ false → is_model k ≡ false → ends k ≡ false → s.word ≡ word_for k → (after_line said (s ∷ ss)).ended ≡ (said.ended || ends k) → (after_line said (s ∷ ss)).cover ≡ cover_for k (length ws) → Changes k ws d e → IsDraft (after_line said (s ∷ ss)) (lines ++ (s.word ∷ ws) ∷ []) e
command_body said lines d e s ss k ws is began goes m notend w end cover ch =
    let b : Begins true lines d.name = subst (λ (t : Bool). Begins t lines d.name) began is.begin in
    let n : Ends false lines = subst (λ (t : Bool). Ends t lines) goes is.ending in
    let g = going lines d.name b n in
    let opened : is_open false g.0 ≡ is_some said.cover = ap (is_open false) (sym (body_is lines d.name g.0 g.1)) ∙ is.opened goes in
    let follows : follow false g.0 ≡ true = ap (follow false) (sym (body_is lines d.name g.0 g.1)) ∙ is.commands in
    let next : body_of (lines ++ (word_for k ∷ ws) ∷ []) ≡ g.0 ++ (word_for k ∷ ws) ∷ [] = body_more lines d.name g.0 (word_for k ∷ ws) g.1 ∙ ap (λ (t : Bool). if t then g.0 else g.0 ++ (word_for k ∷ ws) ∷ []) (end_case k ws ∙ notend) in
    let ended : (after_line said (s ∷ ss)).ended ≡ false = end ∙ ap (λ (t : Bool). t || ends k) goes ∙ notend in
    let line : (lines ++ (s.word ∷ ws) ∷ []) ≡ lines ++ (word_for k ∷ ws) ∷ [] = ap (λ (x : Word). lines ++ (x ∷ ws) ∷ []) w in
    subst (λ (ls : List Line). IsDraft (after_line said (s ∷ ss)) ls e) (sym line) (record {
      begin = (g.0 ++ (word_for k ∷ ws) ∷ [], ap (λ (ls : List Line). ls ++ (word_for k ∷ ws) ∷ []) g.1.lines_are ∙ ap (λ (x : Word). (codes ".model" ∷ x ∷ []) ∷ (g.0 ++ (word_for k ∷ ws) ∷ [])) (sym (ch.name ∙ name_case k ws d.name m)));
      ending = subst (λ (t : Bool). Ends t (lines ++ (word_for k ∷ ws) ∷ [])) (sym ended) (before_more (begins_with (codes ".end")) lines (word_for k ∷ ws) g.1.whole ∙ ap (λ (t : Bool). if t then lines else lines ++ (word_for k ∷ ws) ∷ []) (end_case k ws ∙ notend));
      commands = ap (follow false) next ∙ follow_more false g.0 (word_for k ∷ ws) follows (ap (λ (t : Bool). if t then is_command (word_for k ∷ ws) else is_open false g.0) (dot_case k ws) ∙ command_case k ws m notend);
      opened = λ _. ap (is_open false) next ∙ open_more false g.0 (word_for k ∷ ws) ∙ ap (λ (t : Bool). if t then begins_with (codes ".names") (word_for k ∷ ws) else is_open false g.0) (dot_case k ws) ∙ open_case k ws (length ws) ∙ ap is_some (sym cover);
      inputs = words_more (codes ".inputs") lines (word_for k ∷ ws) ∙ ap (λ (xs : List Word). words_of (codes ".inputs") lines ++ xs) (inputs_case k ws) ∙ ap (λ (xs : List Word). xs ++ given_inputs k ws) is.inputs ∙ sym ch.inputs;
      outputs = words_more (codes ".outputs") lines (word_for k ∷ ws) ∙ ap (λ (xs : List Word). words_of (codes ".outputs") lines ++ xs) (outputs_case k ws) ∙ ap (λ (xs : List Word). xs ++ given_outputs k ws) is.outputs ∙ sym ch.outputs;
      clocks = words_more (codes ".clock") lines (word_for k ∷ ws) ∙ ap (λ (xs : List Word). words_of (codes ".clock") lines ++ xs) (clocks_case k ws) ∙ ap (λ (xs : List Word). xs ++ given_clocks k ws) is.clocks ∙ sym ch.clocks;
      latches = lines_more (codes ".latch") lines (word_for k ∷ ws) ∙ ap (λ (xs : List Line). map words_after (filter (begins_with (codes ".latch")) lines) ++ xs) (latches_case k ws) ∙ ap (λ (xs : List Line). xs ++ given_latches k ws) is.latches ∙ sym ch.latches;
      covers = names_more lines (word_for k ∷ ws) (dot_case k ws) ∙ ap (λ (xs : List (Line × List Line)). names_lines lines ++ xs) (covers_case k ws) ∙ ap (λ (xs : List (Line × List Line)). xs ++ given_covers k ws) is.covers ∙ sym ch.covers;
      current = subst (λ (o : Option SaidCover). CurrentIs o e.current) (sym cover) ch.current;
      shaped = ch.shaped is.shaped;
    })

-- the end
pub command_end : (said : Said) (lines : List Line) (d e : Draft) (s : Spot) (ss : List Spot) → IsDraft said lines d → said.began ≡ true → said.ended ≡ false → s.word ≡ codes ".end" → (after_line said (s ∷ ss)).ended ≡ (said.ended || true) → (after_line said (s ∷ ss)).cover ≡ None → Changes End [] d e → IsDraft (after_line said (s ∷ ss)) (lines ++ (s.word ∷ []) ∷ []) e
command_end said lines d e s ss is began goes w end cover ch =
    let b : Begins true lines d.name = subst (λ (t : Bool). Begins t lines d.name) began is.begin in
    let n : Ends false lines = subst (λ (t : Bool). Ends t lines) goes is.ending in
    let g = going lines d.name b n in
    let follows : follow false g.0 ≡ true = ap (follow false) (sym (body_is lines d.name g.0 g.1)) ∙ is.commands in
    let next : body_of (lines ++ (codes ".end" ∷ []) ∷ []) ≡ g.0 = body_more lines d.name g.0 (codes ".end" ∷ []) g.1 in
    let whole : before_end (lines ++ (codes ".end" ∷ []) ∷ []) ≡ lines = before_more (begins_with (codes ".end")) lines (codes ".end" ∷ []) g.1.whole in
    let ended : (after_line said (s ∷ ss)).ended ≡ true = end ∙ ap (λ (t : Bool). t || true) goes in
    let line : (lines ++ (s.word ∷ []) ∷ []) ≡ lines ++ (codes ".end" ∷ []) ∷ [] = ap (λ (x : Word). lines ++ (x ∷ []) ∷ []) w in
    subst (λ (ls : List Line). IsDraft (after_line said (s ∷ ss)) ls e) (sym line) (record {
      begin = (g.0 ++ (codes ".end" ∷ []) ∷ [], ap (λ (ls : List Line). ls ++ (codes ".end" ∷ []) ∷ []) g.1.lines_are ∙ ap (λ (x : Word). (codes ".model" ∷ x ∷ []) ∷ (g.0 ++ (codes ".end" ∷ []) ∷ [])) (sym ch.name));
      ending = subst (λ (t : Bool). Ends t (lines ++ (codes ".end" ∷ []) ∷ [])) (sym ended) (ap (λ (ls : List Line). ls ++ (codes ".end" ∷ []) ∷ []) (sym whole));
      commands = ap (follow false) next ∙ follows;
      opened = λ h. let wrong : true ≡ false = sym ended ∙ h in cc;
      inputs = words_more (codes ".inputs") lines (codes ".end" ∷ []) ∙ ap (λ (xs : List Word). xs ++ []) is.inputs ∙ sym ch.inputs;
      outputs = words_more (codes ".outputs") lines (codes ".end" ∷ []) ∙ ap (λ (xs : List Word). xs ++ []) is.outputs ∙ sym ch.outputs;
      clocks = words_more (codes ".clock") lines (codes ".end" ∷ []) ∙ ap (λ (xs : List Word). xs ++ []) is.clocks ∙ sym ch.clocks;
      latches = lines_more (codes ".latch") lines (codes ".end" ∷ []) ∙ ap (λ (xs : List Line). xs ++ []) is.latches ∙ sym ch.latches;
      covers = names_more lines (codes ".end" ∷ []) refl ∙ ap (λ (xs : List (Line × List Line)). xs ++ []) is.covers ∙ sym ch.covers;
      current = subst (λ (o : Option SaidCover). CurrentIs o e.current) (sym cover) ch.current;
      shaped = ch.shaped is.shaped;
    })

-- the first line
pub command_first : (said : Said) (lines : List Line) (d e : Draft) (s : Spot) (ss : List Spot) (x : Word) → IsDraft said lines d → said.began ≡ false → said.ended ≡ false → s.word ≡ codes ".model" → (after_line said (s ∷ ss)).ended ≡ (said.ended || false) → (after_line said (s ∷ ss)).cover ≡ None → Changes Model (x ∷ []) d e → IsDraft (after_line said (s ∷ ss)) (lines ++ (s.word ∷ x ∷ []) ∷ []) e
command_first said lines d e s ss x is began goes w end cover ch =
    let empty : lines ≡ [] = subst (λ (t : Bool). Begins t lines d.name) began is.begin in
    let ended : (after_line said (s ∷ ss)).ended ≡ false = end ∙ ap (λ (t : Bool). t || false) goes in
    let line : (lines ++ (s.word ∷ x ∷ []) ∷ []) ≡ (codes ".model" ∷ x ∷ []) ∷ [] = ap (λ (ls : List Line). ls ++ (s.word ∷ x ∷ []) ∷ []) empty ∙ ap (λ (y : Word). (y ∷ x ∷ []) ∷ []) w in
    subst (λ (ls : List Line). IsDraft (after_line said (s ∷ ss)) ls e) (sym line) (record {
      begin = ([], ap (λ (y : Word). (codes ".model" ∷ y ∷ []) ∷ []) (sym ch.name));
      ending = subst (λ (t : Bool). Ends t ((codes ".model" ∷ x ∷ []) ∷ [])) (sym ended) refl;
      commands = refl;
      opened = λ _. ap is_some (sym cover);
      inputs = ap (words_of (codes ".inputs")) (sym empty) ∙ is.inputs ∙ append_none d.inputs ∙ sym ch.inputs;
      outputs = ap (words_of (codes ".outputs")) (sym empty) ∙ is.outputs ∙ append_none d.outputs ∙ sym ch.outputs;
      clocks = ap (words_of (codes ".clock")) (sym empty) ∙ is.clocks ∙ append_none d.clocks ∙ sym ch.clocks;
      latches = ap (λ (ls : List Line). map words_after (filter (begins_with (codes ".latch")) ls)) (sym empty) ∙ is.latches ∙ append_none (map latch_words d.latches) ∙ sym ch.latches;
      covers = ap names_lines (sym empty) ∙ is.covers ∙ append_none (map cover_words (all_covers d)) ∙ sym ch.covers;
      current = subst (λ (o : Option SaidCover). CurrentIs o e.current) (sym cover) ch.current;
      shaped = ch.shaped is.shaped;
    })
  where
    append_none : {A : Type 0} (xs : List A) → xs ≡ xs ++ []
    append_none [] = refl
    append_none (y ∷ ys) = ap (λ zs. y ∷ zs) (append_none ys)

-- a row
row_dots : (w : Word) (ws : List Word) → dotted_word w ≡ is_dotted (w ∷ ws)
row_dots [] ws = refl
row_dots (b ∷ bs) ws = refl

row_begins : (x w : Word) (ws : List Word) → dotted_word x ≡ true → dotted_word w ≡ false → begins_with x (w ∷ ws) ≡ false
row_begins x w ws e f = elim (word_tells x w) [ inl t ↦ let wrong : true ≡ false = sym e ∙ ap dotted_word t.1 ∙ f in cc | inr t ↦ t.0 ]

pub row_line : (said : Said) (lines : List Line) (d e : Draft) (s : Spot) (ss : List Spot) (o : SaidCover) (ws : List Word) → IsDraft said lines d → said.began ≡ true → said.ended ≡ false → said.cover ≡ Some o → dotted_word s.word ≡ false → (after_line said (s ∷ ss)).ended ≡ false → (after_line said (s ∷ ss)).cover ≡ Some (with_row (s ∷ ss) o) → ws ≡ map (λ (t : Spot). t.word) ss → AddsRow s ss o d e → IsDraft (after_line said (s ∷ ss)) (lines ++ (s.word ∷ ws) ∷ []) e
row_line said lines d e s ss o ws is began goes has plain ended cover words ch =
    let b : Begins true lines d.name = subst (λ (t : Bool). Begins t lines d.name) began is.begin in
    let n : Ends false lines = subst (λ (t : Bool). Ends t lines) goes is.ending in
    let g = going lines d.name b n in
    let opened : is_open false g.0 ≡ true = ap (is_open false) (sym (body_is lines d.name g.0 g.1)) ∙ is.opened goes ∙ ap is_some has in
    let follows : follow false g.0 ≡ true = ap (follow false) (sym (body_is lines d.name g.0 g.1)) ∙ is.commands in
    let under : is_dotted (s.word ∷ ws) ≡ false = sym (row_dots s.word ws) ∙ plain in
    let unending : begins_with (codes ".end") (s.word ∷ ws) ≡ false = row_begins (codes ".end") s.word ws refl plain in
    let next : body_of (lines ++ (s.word ∷ ws) ∷ []) ≡ g.0 ++ (s.word ∷ ws) ∷ [] = body_more lines d.name g.0 (s.word ∷ ws) g.1 ∙ ap (λ (t : Bool). if t then g.0 else g.0 ++ (s.word ∷ ws) ∷ []) unending in
    let all_open : is_open false lines ≡ true = ap (is_open false) g.1.lines_are ∙ opened in
    record {
      begin = (g.0 ++ (s.word ∷ ws) ∷ [], ap (λ (ls : List Line). ls ++ (s.word ∷ ws) ∷ []) g.1.lines_are ∙ ap (λ (x : Word). (codes ".model" ∷ x ∷ []) ∷ (g.0 ++ (s.word ∷ ws) ∷ [])) (sym (ap (λ (x : Draft). x.name) ch.rest)));
      ending = subst (λ (t : Bool). Ends t (lines ++ (s.word ∷ ws) ∷ [])) (sym ended) (before_more (begins_with (codes ".end")) lines (s.word ∷ ws) g.1.whole ∙ ap (λ (t : Bool). if t then lines else lines ++ (s.word ∷ ws) ∷ []) unending);
      commands = ap (follow false) next ∙ follow_more false g.0 (s.word ∷ ws) follows (ap (λ (t : Bool). if t then is_command (s.word ∷ ws) else is_open false g.0) under ∙ opened);
      opened = λ _. ap (is_open false) next ∙ open_more false g.0 (s.word ∷ ws) ∙ ap (λ (t : Bool). if t then begins_with (codes ".names") (s.word ∷ ws) else is_open false g.0) under ∙ opened ∙ ap is_some (sym cover);
      inputs = words_more (codes ".inputs") lines (s.word ∷ ws) ∙ ap (λ (t : Bool). words_of (codes ".inputs") lines ++ (if t then ws else [])) (row_begins (codes ".inputs") s.word ws refl plain) ∙ append_end (words_of (codes ".inputs") lines) ∙ is.inputs ∙ sym (ap (λ (x : Draft). x.inputs) ch.rest);
      outputs = words_more (codes ".outputs") lines (s.word ∷ ws) ∙ ap (λ (t : Bool). words_of (codes ".outputs") lines ++ (if t then ws else [])) (row_begins (codes ".outputs") s.word ws refl plain) ∙ append_end (words_of (codes ".outputs") lines) ∙ is.outputs ∙ sym (ap (λ (x : Draft). x.outputs) ch.rest);
      clocks = words_more (codes ".clock") lines (s.word ∷ ws) ∙ ap (λ (t : Bool). words_of (codes ".clock") lines ++ (if t then ws else [])) (row_begins (codes ".clock") s.word ws refl plain) ∙ append_end (words_of (codes ".clock") lines) ∙ is.clocks ∙ sym (ap (λ (x : Draft). x.clocks) ch.rest);
      latches = lines_more (codes ".latch") lines (s.word ∷ ws) ∙ ap (λ (t : Bool). map words_after (filter (begins_with (codes ".latch")) lines) ++ (if t then ws ∷ [] else [])) (row_begins (codes ".latch") s.word ws refl plain) ∙ append_end (map words_after (filter (begins_with (codes ".latch")) lines)) ∙ is.latches ∙ sym (ap (λ (x : Draft). map latch_words x.latches) ch.rest);
      covers = names_row lines (s.word ∷ ws) under all_open ∙ ap (add_row (s.word ∷ ws)) is.covers ∙ ap (λ (xs : List Word). add_row (s.word ∷ xs) (map cover_words (all_covers d))) words ∙ sym ch.covers;
      current = subst (λ (x : Option SaidCover). CurrentIs x e.current) (sym cover) ch.current;
      shaped = ch.shaped is.shaped;
    }
  where
    append_end : {A : Type 0} (xs : List A) → xs ++ [] ≡ xs
    append_end [] = refl
    append_end (y ∷ ys) = ap (λ zs. y ∷ zs) (append_end ys)
