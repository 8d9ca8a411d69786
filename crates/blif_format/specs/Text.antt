-- The written text of a model.
use Rattle.std.specs.Prelude.{ℕ, ◌+◌, Bool, List, [], ◌∷◌, ◌++◌, map, codes, if◌then◌else◌, Option, None, Some}
use Rattle.std.specs.List.{flat_map}
use Rattle.rm_model.specs.Words.{literal_byte, kind_word}
use Rattle.rm_model.specs.declared.parts.Literal.{Literal}
use Rattle.rm_model.specs.declared.parts.Cover.{Cover}
use Rattle.rm_model.specs.declared.parts.Timing.{Timing}
use Rattle.rm_model.specs.declared.parts.Latch.{Latch}
use Rattle.rm_model.specs.declared.parts.Model.{Model}
use Rattle.rm_base.specs.Words.{Word}

-- a line is its words
abbrev pub Line : Type 0
Line = List Word

abbrev pub control_word : Option Word → Word
control_word None = codes "NIL"
control_word (Some x) = x

abbrev pub timing_words : Option Timing → List Word
timing_words None = []
timing_words (Some t) = kind_word t.kind ∷ control_word t.control ∷ []

abbrev pub init_words : Option ℕ → List Word
init_words None = []
init_words (Some n) = ((48 + n) ∷ []) ∷ []

-- the words of a latch after `.latch`
abbrev pub latch_words : Latch → List Word
latch_words l = (l.input ∷ l.output ∷ timing_words l.timing) ++ init_words l.init

abbrev pub on_word : Bool → Word
on_word b = (if b then 49 else 48) ∷ []

-- a row of a cover without inputs is its one byte
abbrev pub row_words : Bool → List Literal → List Word
row_words on [] = on_word on ∷ []
row_words on (l ∷ ls) = map literal_byte (l ∷ ls) ∷ on_word on ∷ []

-- the words of a cover after `.names`, and those of its rows
abbrev pub cover_words : Cover → Line × List Line
cover_words c = (c.inputs ++ c.output ∷ [], map (row_words c.on) c.rows)

abbrev pub cover_lines : Cover → List Line
cover_lines c = (codes ".names" ∷ (cover_words c).0) ∷ (cover_words c).1

abbrev pub clock_lines : List Word → List Line
clock_lines [] = []
clock_lines (x ∷ xs) = (codes ".clock" ∷ x ∷ xs) ∷ []

abbrev pub model_lines : Model → List Line
model_lines m =
    (((((codes ".model" ∷ m.name ∷ []) ∷ (codes ".inputs" ∷ m.inputs) ∷ (codes ".outputs" ∷ m.outputs) ∷ [])
    ++ clock_lines m.clocks)
    ++ map (λ l. codes ".latch" ∷ latch_words l) m.latches)
    ++ flat_map cover_lines m.covers)
    ++ (codes ".end" ∷ []) ∷ []

-- words parted by one blank
abbrev pub spelled : Line → List ℕ
spelled [] = []
spelled (w ∷ []) = w
spelled (w ∷ v ∷ ws) = w ++ 32 ∷ spelled (v ∷ ws)

-- lines each ended by LF
abbrev pub text_of_lines : List Line → List ℕ
text_of_lines [] = []
text_of_lines (l ∷ ls) = spelled l ++ 10 ∷ text_of_lines ls

abbrev pub text_of : Model → List ℕ
text_of m = text_of_lines (model_lines m)
