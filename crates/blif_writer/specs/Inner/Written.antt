-- The parts of a written text.
use Rattle.std.specs.Prelude.{ℕ, Bool, List, [], ◌∷◌, ◌++◌, codes}
use Rattle.std.specs.List.{flat_map}
use Rattle.rm_model.specs.declared.parts.Literal.{Literal}
use Rattle.rm_model.specs.declared.parts.Cover.{Cover}
use Rattle.rm_model.specs.declared.parts.Latch.{Latch}
use Rattle.rm_model.specs.declared.parts.Model.{Model}
use Rattle.blif_format.specs.Text.{Line, clock_lines, latch_words, row_words, spelled, text_of_lines}
use Rattle.rm_base.specs.Words.{Word}

-- each word behind a blank
abbrev pub behind_blanks : List Word → List ℕ
behind_blanks ws = flat_map (λ w. 32 ∷ w) ws

-- a line ended by LF
abbrev pub line_text : Line → List ℕ
line_text l = spelled l ++ 10 ∷ []

abbrev pub latch_text : Latch → List ℕ
latch_text l = line_text (codes ".latch" ∷ latch_words l)

abbrev pub row_text : Bool → List Literal → List ℕ
row_text on row = line_text (row_words on row)

abbrev pub cover_text : Cover → List ℕ
cover_text c = line_text (codes ".names" ∷ (c.inputs ++ c.output ∷ [])) ++ flat_map (row_text c.on) c.rows

-- the lines before the latches
abbrev pub head_text : Model → List ℕ
head_text m =
    line_text (codes ".model" ∷ m.name ∷ []) ++ (line_text (codes ".inputs" ∷ m.inputs)
    ++ (line_text (codes ".outputs" ∷ m.outputs) ++ text_of_lines (clock_lines m.clocks)))
