-- Parts of the first fault of a line.
use Rattle.std.specs.Prelude.{◌+◌, ◌-◌, ◌==◌, ℕ, Bool, true, false, not, length, Option, None, Some}
use Rattle.rm_base.specs.declared.numbers.Place.{Place}
use Rattle.rm_model.specs.Value.{is_among}
use Rattle.blif_lines.specs.Layout.{Spot}
use Rattle.blif_format.specs.declared.words.Command.{Command}
use Rattle.blif_format.specs.declared.words.Command.TheVariants.{Names, End}
use Rattle.blif_format.specs.declared.words.Part.{Part}
use Rattle.blif_format.specs.declared.words.Part.TheVariants.{Title, Name, LatchType, Init, Extra}
use Rattle.blif_format.specs.FirstFault.{OpenCover as SaidCover, or_else, fault, fault_if, name_limit, latch_types, init_values, character_fault}
use Rattle.blif_format.specs.declared.refusal.FaultKind.TheVariants.{RowLength, BadLatchWord, ExtraWord}
use Rattle.blif_format.specs.declared.refusal.ReadRefusal.{ReadRefusal}
use Rattle.rm_base.specs.Words.{Word}
use Rattle.std.specs.Option.{option_map}
use Rattle.blif_format.specs.Text.{on_word}
use Rattle.blif_reader.specs.declared.rows.OpenCover.{OpenCover}

abbrev pub columns_on : Place → ℕ → Place
columns_on place i = record place { column = place.column + i }

-- the input part of a row
abbrev pub inputs_fault : ℕ → Spot → Option ReadRefusal
inputs_fault inputs s = or_else (fault_if (not (length s.word == inputs)) RowLength s.place) (character_fault s.place s.word)

-- a word that is no name
abbrev pub word_fault : Part → Spot → Option ReadRefusal
word_fault Title s = name_limit s.word s.place
word_fault LatchType s = fault_if (not (is_among latch_types s.word)) BadLatchWord s.place
word_fault Init s = fault_if (not (is_among init_values s.word)) BadLatchWord s.place
word_fault Extra s = fault ExtraWord s.place
word_fault (Name role) s = None

-- what a command makes of the cover to which rows may belong
abbrev pub cover_for : Command → ℕ → Option SaidCover
cover_for Names count = Some (record { inputs = count - 1; ending = None })
cover_for command count = None

abbrev pub ends : Command → Bool
ends End = true
ends command = false

-- the first ending counts
abbrev pub with_last : Option Word → SaidCover → SaidCover
with_last last cover = elim cover.ending [ None ↦ record cover { ending = last } | Some ending ↦ cover ]

-- a cover to which rows may belong, as the definitions have it
abbrev pub said_ending : Option Bool → Option Word
said_ending ending = option_map on_word ending

abbrev pub said_cover : OpenCover → SaidCover
said_cover c = record { inputs = c.inputs; ending = said_ending c.ending }
