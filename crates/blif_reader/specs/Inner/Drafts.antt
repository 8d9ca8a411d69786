-- What a draft of a model has of the lines so far.
use Rattle.std.specs.Prelude.{◌≡◌, ◌≢◌, ◌<◌, ◌≤◌, ℕ, Bool, true, false, List, [], ◌∷◌, ◌++◌, map, filter, length, is_some, codes, All, IfSome, Option, None, Some, if◌then◌else◌}
use Rattle.rm_model.specs.declared.parts.Literal.{Literal}
use Rattle.rm_model.specs.Value.{control_of}
use Rattle.rm_model.specs.WellFormed.{IsWellFormedCover}
use Rattle.rm_model.specs.declared.parts.Latch.{Latch}
use Rattle.rm_model.specs.declared.parts.Cover.{Cover}
use Rattle.rm_model.specs.declared.parts.Model.{Model as CircuitModel}
use Rattle.blif_format.specs.Text.{Line, on_word, latch_words, cover_words, row_words}
use Rattle.blif_format.specs.Grammar.{before_end, begins_with, is_dotted, words_after, words_of, names_lines, follow, body_of}
use Rattle.blif_format.specs.declared.words.Command.{Command}
use Rattle.blif_format.specs.declared.words.Command.TheVariants.{Model, Inputs, Outputs, Clock, Names, Latch as LatchLine, End}
use Rattle.blif_format.specs.FirstFault.{Said, after_line, row_fault, OpenCover as SaidCover, with_row}
use Rattle.blif_lines.specs.Layout.{Spot}
use Rattle.blif_lines.specs.Reading.{spot_of}
use Rattle.blif_lines.specs.declared.line.Token.{Token}
use Rattle.blif_reader.specs.Lines.{words_at, spots_at, line_at, IsLatchLine}
use Rattle.blif_reader.specs.Rows.{cover_for}
use Rattle.blif_reader.specs.Words.{IsFitLatch}
use Rattle.blif_reader.specs.declared.draft.Draft.{Draft}
use Rattle.rm_base.specs.Words.{Word}

abbrev pub opt_list : {A : Type 0} → Option A → List A
opt_list None = []
opt_list (Some a) = a ∷ []

abbrev pub all_covers : Draft → List Cover
all_covers d = d.covers ++ opt_list d.current

-- whether rows may follow the lines
abbrev pub is_open : Bool → List Line → Bool
is_open in_cover [] = in_cover
is_open in_cover (l ∷ ls) = is_open (if is_dotted l then begins_with (codes ".names") l else in_cover) ls

abbrev pub Begins : Bool → List Line → Word → Type 0
Begins false lines name = lines ≡ []
Begins true lines name = (body : List Line) × (lines ≡ (codes ".model" ∷ name ∷ []) ∷ body)

abbrev pub Ends : Bool → List Line → Type 0
Ends false lines = before_end lines ≡ lines
Ends true lines = lines ≡ before_end lines ++ (codes ".end" ∷ []) ∷ []

abbrev pub ending_of : Bool → List (List Literal) → Option Word
ending_of on [] = None
ending_of on (r ∷ rs) = Some (on_word on)

pub record RowsAre (o : SaidCover) (c : Cover) : Type 0 where
  pub inputs : o.inputs ≡ length c.inputs
  pub ending : o.ending ≡ ending_of c.on c.rows

abbrev pub CurrentIs : Option SaidCover → Option Cover → Type 0
CurrentIs None None = Unit {0}
CurrentIs None (Some c) = ⊥
CurrentIs (Some o) None = ⊥
CurrentIs (Some o) (Some c) = RowsAre o c

pub record IsShaped (d : Draft) : Type 0 where
  pub covers : All IsWellFormedCover (all_covers d)
  pub latches : All IsFitLatch d.latches

pub record IsDraft (said : Said) (lines : List Line) (d : Draft) : Type 0 where
  pub begin : Begins said.began lines d.name
  pub ending : Ends said.ended lines
  pub commands : follow false (body_of lines) ≡ true
  pub opened : said.ended ≡ false → is_open false (body_of lines) ≡ is_some said.cover
  pub inputs : words_of (codes ".inputs") lines ≡ d.inputs
  pub outputs : words_of (codes ".outputs") lines ≡ d.outputs
  pub clocks : words_of (codes ".clock") lines ≡ d.clocks
  pub latches : map words_after (filter (begins_with (codes ".latch")) lines) ≡ map latch_words d.latches
  pub covers : names_lines lines ≡ map cover_words (all_covers d)
  pub current : CurrentIs said.cover d.current
  pub shaped : IsShaped d

-- the draft has one line more than these lines
abbrev pub HasLine : Said → List Line → List ℕ → Token → List Token → Draft → Type 0
HasLine said lines text first rest d = IsDraft (after_line said (line_at text first rest)) (lines ++ words_at text (first ∷ rest) ∷ []) d

-- what a command gives to the parts of the model
abbrev pub given_name : Command → List Word → Word → Word
given_name Model (w ∷ ws) name = w
given_name command words name = name

abbrev pub given_inputs : Command → List Word → List Word
given_inputs Inputs ws = ws
given_inputs command ws = []

abbrev pub given_outputs : Command → List Word → List Word
given_outputs Outputs ws = ws
given_outputs command ws = []

abbrev pub given_clocks : Command → List Word → List Word
given_clocks Clock ws = ws
given_clocks command ws = []

abbrev pub given_latches : Command → List Word → List (List Word)
given_latches LatchLine ws = ws ∷ []
given_latches command ws = []

abbrev pub given_covers : Command → List Word → List (Line × List Line)
given_covers Names ws = (ws, []) ∷ []
given_covers command ws = []

pub record Changes (command : Command) (ws : List Word) (d e : Draft) : Type 0 where
  pub name : e.name ≡ given_name command ws d.name
  pub inputs : e.inputs ≡ d.inputs ++ given_inputs command ws
  pub outputs : e.outputs ≡ d.outputs ++ given_outputs command ws
  pub clocks : e.clocks ≡ d.clocks ++ given_clocks command ws
  pub latches : map latch_words e.latches ≡ map latch_words d.latches ++ given_latches command ws
  pub covers : map cover_words (all_covers e) ≡ map cover_words (all_covers d) ++ given_covers command ws
  pub current : CurrentIs (cover_for command (length ws)) e.current
  pub shaped : IsShaped d → IsShaped e

-- the words behind a command are as many and of the kind that it wants
abbrev pub IsKnown : Command → List Word → Type 0
IsKnown Model ws = length ws ≡ 1
IsKnown Names ws = 0 < length ws
IsKnown LatchLine ws = IsLatchLine ws
IsKnown End ws = ws ≡ []
IsKnown command ws = Unit {0}

-- the rows of the last cover, and one more
abbrev pub add_row : Line → List (Line × List Line) → List (Line × List Line)
add_row r [] = []
add_row r (x ∷ []) = (x.0, x.1 ++ r ∷ []) ∷ []
add_row r (x ∷ y ∷ zs) = x ∷ add_row r (y ∷ zs)

abbrev pub last_token : Token → List Token → Token
last_token t [] = t
last_token t (u ∷ us) = u

abbrev pub inputs_in : Word → List Token → Word
inputs_in word [] = []
inputs_in word (t ∷ ts) = word

-- the line is a row without fault of the cover
abbrev pub FitsCover : List ℕ → Token → List Token → SaidCover → Type 0
FitsCover text first rest o = row_fault o (spot_of text first) (spots_at text rest) ≡ None

-- the cover with one more row
pub record HasRow (s : Spot) (ss : List Spot) (o : SaidCover) (c d : Cover) : Type 0 where
  pub inputs : d.inputs ≡ c.inputs
  pub output : d.output ≡ c.output
  pub rows : map (row_words d.on) d.rows ≡ map (row_words c.on) c.rows ++ (s.word ∷ map (λ (t : Spot). t.word) ss) ∷ []
  pub still : RowsAre (with_row (s ∷ ss) o) d
  pub formed : IsWellFormedCover c → IsWellFormedCover d

pub record AddsRow (s : Spot) (ss : List Spot) (o : SaidCover) (d e : Draft) : Type 0 where
  pub rest : e ≡ record d { current = e.current }
  pub covers : map cover_words (all_covers e) ≡ add_row (s.word ∷ map (λ (t : Spot). t.word) ss) (map cover_words (all_covers d))
  pub current : CurrentIs (Some (with_row (s ∷ ss) o)) e.current
  pub shaped : IsShaped d → IsShaped e

abbrev pub model_in : Draft → CircuitModel
model_in d = record { name = d.name; inputs = d.inputs; clocks = d.clocks; outputs = d.outputs; latches = d.latches; covers = all_covers d }
