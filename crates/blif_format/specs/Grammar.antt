-- The grammar: which model the logical lines of a text say.
use Rattle.std.specs.Prelude.{◌≡◌, ◌⊎◌, ◌==◌, Bool, true, false, ◌&&◌, ◌||◌, List, [], ◌∷◌, ◌++◌, map, filter, codes, if◌then◌else◌}
use Rattle.std.specs.List.{flat_map}
use Rattle.rm_model.specs.Words.{is_word}
use Rattle.rm_model.specs.Value.{IsRanked}
use Rattle.rm_model.specs.WellFormed.{IsWellFormed}
use Rattle.rm_model.specs.declared.parts.Model.{Model}
use Rattle.blif_format.specs.Text.{Line, cover_words, latch_words}
use Rattle.rm_base.specs.Words.{Word}

-- what stands before the first line that passes the test
abbrev pub before : (Line → Bool) → List Line → List Line
before test [] = []
before test (l ∷ ls) = if test l then [] else l ∷ before test ls

-- the first word of the line, and a test of it
abbrev pub begins_with : Word → Line → Bool
begins_with word [] = false
begins_with word (w ∷ ws) = is_word word w

abbrev pub is_dotted : Line → Bool
is_dotted ((b ∷ bs) ∷ ws) = b == 46
is_dotted ws = false

abbrev pub words_after : Line → List Word
words_after [] = []
words_after (w ∷ ws) = ws

-- the words behind this command, all its lines joined in order
abbrev pub words_of : Word → List Line → List Word
words_of word lines = flat_map words_after (filter (begins_with word) lines)

-- the words of each `.names` line, and the rows up to the next command
abbrev pub names_lines : List Line → List (Line × List Line)
names_lines [] = []
names_lines (l ∷ ls) = if begins_with (codes ".names") l then (words_after l, before is_dotted ls) ∷ names_lines ls else names_lines ls

abbrev pub is_command : Line → Bool
is_command l = begins_with (codes ".inputs") l || (begins_with (codes ".outputs") l || (begins_with (codes ".clock") l || (begins_with (codes ".latch") l || begins_with (codes ".names") l)))

-- each line is a command, or a row with only rows between it and its `.names`
abbrev pub follow : Bool → List Line → Bool
follow in_cover [] = true
follow in_cover (l ∷ ls) = if is_dotted l then is_command l && follow (begins_with (codes ".names") l) ls else in_cover && follow in_cover ls

-- the lines before `.end`
abbrev pub before_end : List Line → List Line
before_end lines = before (begins_with (codes ".end")) lines

-- the lines behind the first and before `.end`
abbrev pub body_of : List Line → List Line
body_of [] = []
body_of (l ∷ ls) = before_end ls

pub record Reads (lines : List Line) (m : Model) : Type 0 where
  pub first : (body : List Line) × (lines ≡ (codes ".model" ∷ m.name ∷ []) ∷ body)
  pub ending : (lines ≡ before_end lines) ⊎ (lines ≡ before_end lines ++ (codes ".end" ∷ []) ∷ [])
  pub commands : follow false (body_of lines) ≡ true
  pub inputs : words_of (codes ".inputs") lines ≡ m.inputs
  pub outputs : words_of (codes ".outputs") lines ≡ m.outputs
  pub clocks : words_of (codes ".clock") lines ≡ m.clocks
  pub latches : map words_after (filter (begins_with (codes ".latch")) lines) ≡ map latch_words m.latches
  pub covers : names_lines lines ≡ map cover_words m.covers
  pub well_formed : IsWellFormed m
  pub ranked : IsRanked m
