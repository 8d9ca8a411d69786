-- The parts of a written text put together.
use Rattle.std.proofs.Common.{◌≡◌, ℕ, Bool, List, [], ◌∷◌, ◌++◌, map, refl, ap, sym, ◌∙◌, append_assoc, append-nil}
use Rattle.std.specs.Prelude.{codes}
use Rattle.std.specs.List.{flat_map}
use Rattle.std.proofs.lemmas.Grind.{flat_map-append}
use Rattle.rm_model.specs.declared.parts.Literal.{Literal}
use Rattle.rm_model.specs.declared.parts.Cover.{Cover}
use Rattle.rm_model.specs.declared.parts.Latch.{Latch}
use Rattle.rm_model.specs.declared.parts.Model.{Model}
use Rattle.blif_format.specs.Text.{Line, clock_lines, cover_lines, latch_words, row_words, spelled, text_of, text_of_lines}
use Rattle.blif_writer.specs.Inner.Written.{behind_blanks, cover_text, head_text, latch_text, line_text, row_text}
use Rattle.rm_base.specs.Words.{Word}

pub spelled_words : (w : Word) (ws : Line) → spelled (w ∷ ws) ≡ w ++ behind_blanks ws
spelled_words w [] = sym (append-nil w)
spelled_words w (v ∷ ws) = ap (λ t. w ++ 32 ∷ t) (spelled_words v ws)

-- a line by its words
line_of_words : (out : List ℕ) (w : Word) (ws : Line) → ((out ++ w) ++ behind_blanks ws) ++ 10 ∷ [] ≡ out ++ line_text (w ∷ ws)
line_of_words out w ws =
    rw (spelled_words w ws) (append_assoc (out ++ w) (behind_blanks ws) (10 ∷ []) ∙ (append_assoc out w (behind_blanks ws ++ 10 ∷ [])
    ∙ ap (λ t. out ++ t) (sym (append_assoc w (behind_blanks ws) (10 ∷ [])))))

-- the last word apart
blanks-push : (ws : Line) (v : Word) → behind_blanks (ws ++ v ∷ []) ≡ behind_blanks ws ++ 32 ∷ v
blanks-push ws v = flat_map-append (λ (x : Word). 32 ∷ x) ws (v ∷ []) ∙ ap (λ t. behind_blanks ws ++ 32 ∷ t) (append-nil v)

pub line_put : (out a b d : List ℕ) (w : Word) (ws : Line) → a ≡ out ++ w → b ≡ a ++ behind_blanks ws → d ≡ b ++ 10 ∷ [] → d ≡ out ++ line_text (w ∷ ws)
line_put out a b d w ws p q r = r ∙ (ap (λ t. t ++ 10 ∷ []) (q ∙ ap (λ t. t ++ behind_blanks ws) p) ∙ line_of_words out w ws)

pub longer_line_put : (out a b c d : List ℕ) (w : Word) (ws : Line) (v : Word) → a ≡ out ++ w → b ≡ a ++ behind_blanks ws → c ≡ b ++ 32 ∷ v → d ≡ c ++ 10 ∷ [] → d ≡ out ++ line_text (w ∷ (ws ++ v ∷ []))
longer_line_put out a b c d w ws v p q r s =
    let more : c ≡ a ++ behind_blanks (ws ++ v ∷ []) =
    r ∙ (ap (λ t. t ++ 32 ∷ v) q ∙ (append_assoc a (behind_blanks ws) (32 ∷ v) ∙ ap (λ t. a ++ t) (sym (blanks-push ws v)))) in
    line_put out a c d w (ws ++ v ∷ []) p more s

text_of_lines-append : (ls ms : List Line) → text_of_lines (ls ++ ms) ≡ text_of_lines ls ++ text_of_lines ms
text_of_lines-append [] ms = refl
text_of_lines-append (l ∷ ls) ms = ap (λ t. spelled l ++ 10 ∷ t) (text_of_lines-append ls ms) ∙ sym (append_assoc (spelled l) (10 ∷ text_of_lines ls) (text_of_lines ms))

-- a line in front of a text
line-front : (l : Line) (t : List ℕ) → spelled l ++ 10 ∷ t ≡ line_text l ++ t
line-front l t = sym (append_assoc (spelled l) (10 ∷ []) t)

latches-text : (ls : List Latch) → text_of_lines (map (λ l. codes ".latch" ∷ latch_words l) ls) ≡ flat_map latch_text ls
latches-text [] = refl
latches-text (l ∷ ls) = ap (λ t. spelled (codes ".latch" ∷ latch_words l) ++ 10 ∷ t) (latches-text ls) ∙ line-front (codes ".latch" ∷ latch_words l) (flat_map latch_text ls)

rows-text : (on : Bool) (rows : List (List Literal)) → text_of_lines (map (row_words on) rows) ≡ flat_map (row_text on) rows
rows-text on [] = refl
rows-text on (r ∷ rs) = ap (λ t. spelled (row_words on r) ++ 10 ∷ t) (rows-text on rs) ∙ line-front (row_words on r) (flat_map (row_text on) rs)

covers-text : (cs : List Cover) → text_of_lines (flat_map cover_lines cs) ≡ flat_map cover_text cs
covers-text [] = refl
covers-text (c ∷ cs) =
    let names = codes ".names" ∷ (c.inputs ++ c.output ∷ []) in
    let rows : text_of_lines (cover_lines c) ≡ cover_text c =
    ap (λ t. spelled names ++ 10 ∷ t) (rows-text c.on c.rows) ∙ line-front names (flat_map (row_text c.on) c.rows) in
    text_of_lines-append (cover_lines c) (flat_map cover_lines cs) ∙ (ap (λ t. t ++ text_of_lines (flat_map cover_lines cs)) rows ∙ ap (λ t. cover_text c ++ t) (covers-text cs))

-- the lines before the latches
head-text : (m : Model) (rest : List Line) → text_of_lines ((((codes ".model" ∷ m.name ∷ []) ∷ (codes ".inputs" ∷ m.inputs) ∷ (codes ".outputs" ∷ m.outputs) ∷ []) ++ clock_lines m.clocks) ++ rest) ≡ head_text m ++ text_of_lines rest
head-text m rest =
    let name = codes ".model" ∷ m.name ∷ [] in
    let inputs = codes ".inputs" ∷ m.inputs in
    let outputs = codes ".outputs" ∷ m.outputs in
    let clocks = text_of_lines (clock_lines m.clocks) in
    text_of_lines-append ((name ∷ inputs ∷ outputs ∷ []) ++ clock_lines m.clocks) rest
    ∙ ap (λ t. t ++ text_of_lines rest)
    (line-front name _ ∙ ap (λ t. line_text name ++ t) (line-front inputs _ ∙ ap (λ t. line_text inputs ++ t) (line-front outputs clocks)))

-- the whole text
pub model_put : (m : Model) (none a b c d : List ℕ) → none ≡ [] → a ≡ none ++ head_text m → b ≡ a ++ flat_map latch_text m.latches → c ≡ b ++ flat_map cover_text m.covers → d ≡ c ++ codes ".end\n" → d ≡ text_of m
model_put m none a b c d e p q r s =
    let head = ((codes ".model" ∷ m.name ∷ []) ∷ (codes ".inputs" ∷ m.inputs) ∷ (codes ".outputs" ∷ m.outputs) ∷ []) ++ clock_lines m.clocks in
    let latches = map (λ (l : Latch). codes ".latch" ∷ latch_words l) m.latches in
    let covers = flat_map cover_lines m.covers in
    let first : a ≡ text_of_lines head = p ∙ (ap (λ t. t ++ head_text m) e ∙ (sym (append-nil (head_text m)) ∙ (sym (head-text m []) ∙ ap text_of_lines (append-nil head)))) in
    let second : b ≡ text_of_lines (head ++ latches) =
    q ∙ (ap (λ t. t ++ flat_map latch_text m.latches) first ∙ (ap (λ t. text_of_lines head ++ t) (sym (latches-text m.latches)) ∙ sym (text_of_lines-append head latches))) in
    let third : c ≡ text_of_lines ((head ++ latches) ++ covers) =
    r ∙ (ap (λ t. t ++ flat_map cover_text m.covers) second ∙ (ap (λ t. text_of_lines (head ++ latches) ++ t) (sym (covers-text m.covers)) ∙ sym (text_of_lines-append (head ++ latches) covers))) in
    s ∙ (ap (λ t. t ++ codes ".end\n") third ∙ sym (text_of_lines-append ((head ++ latches) ++ covers) ((codes ".end" ∷ []) ∷ [])))
