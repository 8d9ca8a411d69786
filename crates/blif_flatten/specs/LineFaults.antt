-- The first fault of the lines of a hierarchical text, before calls and names are looked at as a whole.
use Rattle.std.specs.Prelude.{◌+◌, ℕ, Bool, true, false, not, ◌&&◌, ◌||◌, nat_lt, List, [], ◌∷◌, ◌++◌, fold, length, codes, Option, None, Some, if◌then◌else◌}
use Rattle.rm_base.specs.declared.numbers.Place.{Place}
use Rattle.rm_base.specs.Words.{Word}
use Rattle.rm_model.specs.Words.{is_word}
use Rattle.rm_model.specs.Value.{is_among}
use Rattle.blif_lines.specs.Layout.{Spot, Logical}
use Rattle.blif_format.specs.declared.words.Command.{Command}
use Rattle.blif_format.specs.declared.words.Role.{Role}
use Rattle.blif_format.specs.declared.words.Role.TheVariants.{Output}
use Rattle.blif_format.specs.declared.words.Part.{Part}
use Rattle.blif_format.specs.declared.words.Part.TheVariants.{Title, Name, LatchType, Init, Extra}
use Rattle.blif_format.specs.declared.refusal.FaultKind.TheVariants.{NoModel, AfterEnd, MissingWord, DoubleOutput, BadPin, DoubleModel, Unsupported, UnknownCommand}
use Rattle.blif_format.specs.declared.refusal.Quantity.TheVariants.{Inputs}
use Rattle.blif_format.specs.declared.refusal.ReadRefusal.{ReadRefusal}
use Rattle.blif_format.specs.Unsupported.{unsupported_words}
use Rattle.blif_format.specs.Uses.{parts_of, least_words, command_of, is_output}
use Rattle.blif_format.specs.FirstFault.{OpenCover, or_else, fault, fault_if, limit_if, name_limit, is_cover_input, extra_fault, row_fault_in, is_dotted, cover_after}
use Rattle.blif_reader.specs.Rows.{word_fault}
use Rattle.blif_flatten.specs.Sections.{Section, is_title, sound_lines, layout_fault}
use Rattle.blif_flatten.specs.Calls.{sides_at, is_call}

-- WORDS OF A COMMAND

-- a name behind `earlier` words of its line, where these outputs are listed; drivers and the number of names are looked at later
abbrev pub name_fault : List Word → ℕ → Role → Spot → Option ReadRefusal
name_fault outputs earlier role s =
    or_else (fault_if (is_output role && is_among outputs s.word) DoubleOutput s.place)
    (or_else (name_limit s.word s.place)
    (limit_if (is_cover_input role && nat_lt 65535 earlier) Inputs (earlier + 1) s.place))

abbrev pub part_fault : List Word → ℕ → Part × Spot → Option ReadRefusal
part_fault outputs earlier (Name role, s) = name_fault outputs earlier role s
part_fault outputs earlier (Title, s) = word_fault Title s
part_fault outputs earlier (LatchType, s) = word_fault LatchType s
part_fault outputs earlier (Init, s) = word_fault Init s
part_fault outputs earlier (Extra, s) = word_fault Extra s

-- the outputs that are listed so far
abbrev pub outputs_with : List Word → Part × Spot → List Word
outputs_with outputs (Name Output, s) = outputs ++ s.word ∷ []
outputs_with outputs p = outputs

-- from left to right
abbrev pub parts_fault : List Word → ℕ → List (Part × Spot) → Option ReadRefusal
parts_fault outputs earlier [] = None
parts_fault outputs earlier (p ∷ ps) = or_else (part_fault outputs earlier p) (parts_fault (outputs_with outputs p) (earlier + 1) ps)

abbrev pub command_fault : List Word → Spot → Command → List Spot → Option ReadRefusal
command_fault outputs s command ss =
    or_else (parts_fault outputs 0 (parts_of command ss)) (fault_if (nat_lt (length ss) (least_words command)) MissingWord s.place)

abbrev pub known_fault : List Word → Spot → List Spot → Option Command → Option ReadRefusal
known_fault outputs s ss None = fault (if is_among unsupported_words s.word then Unsupported else UnknownCommand) s.place
known_fault outputs s ss (Some command) = command_fault outputs s command ss

-- CALLS

abbrev pub is_empty : Word → Bool
is_empty [] = true
is_empty (b ∷ bs) = false

-- a name that is too long comes before an empty one
abbrev pub sides_fault : Place → Option (Word × Word) → Option ReadRefusal
sides_fault place None = fault BadPin place
sides_fault place (Some p) = or_else (name_limit p.0 place) (or_else (name_limit p.1 place) (fault_if (is_empty p.0 || is_empty p.1) BadPin place))

abbrev pub pins_fault : List Spot → Option ReadRefusal
pins_fault [] = None
pins_fault (s ∷ ss) = or_else (sides_fault s.place (sides_at 61 s.word)) (pins_fault ss)

-- behind `.subckt` there is a name, and then pins
abbrev pub call_fault : Spot → List Spot → Option ReadRefusal
call_fault s [] = fault MissingWord s.place
call_fault s (t ∷ ts) = or_else (name_limit t.word t.place) (pins_fault ts)

-- LINES

-- what the lines of a section so far say: whether it has ended, the cover to which a row may belong, the outputs
pub record BodySaid : Type 0 where
  pub ended : Bool
  pub cover : Option OpenCover
  pub outputs : List Word

abbrev pub nothing_said : BodySaid
nothing_said = record { ended = false; cover = None; outputs = [] }

abbrev pub dotted_fault : List Word → Spot → List Spot → Option ReadRefusal
dotted_fault outputs s ss = if is_call s then call_fault s ss else known_fault outputs s ss (command_of s.word)

abbrev pub line_fault : BodySaid → List Spot → Option ReadRefusal
line_fault said [] = None
line_fault said (s ∷ ss) =
    if said.ended then fault AfterEnd s.place
    else (if is_dotted s.word then dotted_fault said.outputs s ss else row_fault_in said.cover s ss)

abbrev pub outputs_after : List Word → List Spot → Option Command → List Word
outputs_after outputs ss None = outputs
outputs_after outputs ss (Some command) = fold outputs_with outputs (parts_of command ss)

abbrev pub after_line : BodySaid → List Spot → BodySaid
after_line said [] = said
after_line said (s ∷ ss) = record {
  ended = said.ended || is_word (codes ".end") s.word;
  cover = cover_after said.cover s ss;
  outputs = outputs_after said.outputs ss (command_of s.word);
}

abbrev pub body_fault : BodySaid → List (List Spot) → Option ReadRefusal
body_fault said [] = None
body_fault said (l ∷ ls) = or_else (line_fault said l) (body_fault (after_line said l) ls)

-- SECTIONS

-- behind `.model` there is one name, which no earlier section has
abbrev pub title_fault : List Word → List Spot → Option ReadRefusal
title_fault models [] = None
title_fault models (s ∷ []) = fault MissingWord s.place
title_fault models (s ∷ t ∷ ts) =
    or_else (name_limit t.word t.place) (or_else (fault_if (is_among models t.word) DoubleModel t.place) (extra_fault ts))

abbrev pub titles_with : List Word → List Spot → List Word
titles_with models (s ∷ t ∷ ts) = models ++ t.word ∷ []
titles_with models line = models

abbrev pub section_fault : List Word → Section → Option ReadRefusal
section_fault models s = or_else (title_fault models s.title) (body_fault nothing_said s.body)

abbrev pub sections_fault : List Word → List Section → Option ReadRefusal
sections_fault models [] = None
sections_fault models (s ∷ ss) = or_else (section_fault models s) (sections_fault (titles_with models s.title) ss)

abbrev pub text_start : Place
text_start = record { line = 1; column = 1 }

-- the first line, which has tokens, is a `.model`
abbrev pub head_fault : List (List Spot) → Option ReadRefusal
head_fault [] = None
head_fault ([] ∷ ls) = fault NoModel text_start
head_fault ((s ∷ ss) ∷ ls) = fault_if (not (is_title (s ∷ ss))) NoModel s.place

abbrev pub empty_fault : List (List Spot) → Option ReadRefusal
empty_fault [] = fault NoModel text_start
empty_fault (l ∷ ls) = None

-- what the lines say up to the first fault of layout comes before that
abbrev pub lines_fault : List Logical → List Section → Option ReadRefusal
lines_fault ls sections =
    or_else (head_fault (sound_lines ls)) (or_else (sections_fault [] sections) (or_else (layout_fault ls) (empty_fault (sound_lines ls))))
