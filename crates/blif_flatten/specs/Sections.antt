-- The sections of a hierarchical text: each begins with `.model` and ends before the next one.
use Rattle.std.specs.Prelude.{◌+◌, ℕ, Bool, true, false, List, [], ◌∷◌, ◌++◌, map, fold, length, Option, None, Some, codes, if◌then◌else◌}
use Rattle.std.specs.List.{filter_map, cons_option}
use Rattle.rm_base.specs.declared.numbers.Place.{Place}
use Rattle.rm_base.specs.Words.{Word}
use Rattle.rm_model.specs.Words.{is_word}
use Rattle.rm_model.specs.declared.parts.Literal.{Literal}
use Rattle.rm_model.specs.declared.parts.Cover.{Cover}
use Rattle.rm_model.specs.declared.parts.Latch.{Latch}
use Rattle.rm_model.specs.declared.parts.Model.{Model}
use Rattle.blif_lines.specs.Layout.{Spot, Logical, Flaw, layout}
use Rattle.blif_format.specs.Text.{Line}
use Rattle.blif_format.specs.Grammar.{before, is_dotted, words_of}
use Rattle.blif_format.specs.FirstFault.{or_else, flaw_fault, cover_names}
use Rattle.blif_format.specs.declared.refusal.ReadRefusal.{ReadRefusal}
use Rattle.blif_reader.specs.Words.{literal_from, latch_from}
use Rattle.blif_flatten.specs.declared.modules.Module.{Module}

-- the `.model` line and the lines behind it
pub record Section : Type 0 where
  pub title : List Spot
  pub body : List (List Spot)

abbrev pub is_title : List Spot → Bool
is_title [] = false
is_title (s ∷ ss) = is_word (codes ".model") s.word

abbrev pub onto_last : List Spot → List Section → List Section
onto_last line [] = []
onto_last line (s ∷ []) = record s { body = s.body ++ line ∷ [] } ∷ []
onto_last line (s ∷ t ∷ ss) = s ∷ onto_last line (t ∷ ss)

-- `.model` begins a section, and any other line belongs to the last one
abbrev pub with_line : List Section → List Spot → List Section
with_line sections line = if is_title line then sections ++ record { title = line; body = [] } ∷ [] else onto_last line sections

abbrev pub line_with : List Spot → List (List Spot) → List (List Spot)
line_with [] lines = lines
line_with (s ∷ ss) lines = (s ∷ ss) ∷ lines

-- the lines that have tokens, before the first fault of layout
abbrev pub lines_until : Option Flaw → List Spot → List (List Spot) → List (List Spot)
lines_until None line lines = line_with line lines
lines_until (Some flaw) line lines = []

abbrev pub sound_lines : List Logical → List (List Spot)
sound_lines [] = []
sound_lines (l ∷ ls) = lines_until l.flaw l.tokens (sound_lines ls)

-- the first fault of layout
abbrev pub layout_fault : List Logical → Option ReadRefusal
layout_fault [] = None
layout_fault (l ∷ ls) = or_else (flaw_fault l.flaw) (layout_fault ls)

abbrev pub sections_of : List ℕ → List Section
sections_of text = fold with_line [] (sound_lines (layout text))

-- THE MODEL OF A SECTION

abbrev pub words_in_line : List Spot → Line
words_in_line spots = map (λ (s : Spot). s.word) spots

-- a row is its ending alone, or its literals and its ending
abbrev pub row_from : Line → List Literal
row_from (bits ∷ ending ∷ ws) = map literal_from bits
row_from ws = []

abbrev pub is_on_row : Line → Bool
is_on_row (bits ∷ ending ∷ ws) = is_word (codes "1") ending
is_on_row (ending ∷ []) = is_word (codes "1") ending
is_on_row [] = false

-- the first row's ending counts; without rows the cover is on
abbrev pub is_on_from : List Line → Bool
is_on_from [] = true
is_on_from (r ∷ rs) = is_on_row r

-- a cover by the words behind `.names` and those of its rows
abbrev pub cover_from : Line × List Line → Cover
cover_from x = let c = cover_names x.0 in record c { on = is_on_from x.1; rows = map row_from x.1 }

-- a line that is the cover's `.names`, by the lines behind it
abbrev pub cover_on : Line → List Line → Option Cover
cover_on (w ∷ x ∷ xs) lines = if is_word (codes ".names") w then Some (cover_from (x ∷ xs, before is_dotted lines)) else None
cover_on line lines = None

abbrev pub covers_from : List Line → List Cover
covers_from [] = []
covers_from (l ∷ ls) = cons_option (cover_on l ls) (covers_from ls)

abbrev pub latch_in : Line → Option Latch
latch_in (w ∷ a ∷ b ∷ ws) = if is_word (codes ".latch") w then Some (latch_from (a ∷ b ∷ ws)) else None
latch_in line = None

abbrev pub second_word : Line → Word
second_word (v ∷ w ∷ ws) = w
second_word line = []

-- the model that lines say, by its name; lines of calls say nothing of it
abbrev pub model_from : Word → List Line → Model
model_from name lines = record {
  name = name;
  inputs = words_of (codes ".inputs") lines;
  clocks = words_of (codes ".clock") lines;
  outputs = words_of (codes ".outputs") lines;
  latches = filter_map latch_in lines;
  covers = covers_from lines;
}

abbrev pub names_place : List Spot → Option Place
names_place (s ∷ t ∷ ts) = if is_word (codes ".names") s.word then Some s.place else None
names_place line = None

abbrev pub token_count : List (List Spot) → ℕ
token_count [] = 0
token_count (l ∷ ls) = length l + token_count ls

abbrev pub title_place : List Spot → Place
title_place [] = record { line = 1; column = 1 }
title_place (s ∷ ss) = s.place

-- the model of a section, without its calls
abbrev pub plain_module : Section → Module
plain_module s = record {
  place = title_place s.title;
  model = model_from (second_word (words_in_line s.title)) (map words_in_line s.body);
  places = filter_map names_place s.body;
  tokens = length s.title + token_count s.body;
  links = [];
}
