-- What a reader of lines has still to come, and its answers.
use Rattle.std.specs.Prelude.{◌≡◌, ◌≤◌, ◌<◌, ◌+◌, ◌-◌, ℕ, List, [], ◌∷◌, map, length, take, drop, Option, None, Some}
use Rattle.blif_lines.specs.Layout.{Spot, Flaw, BadByteAt, OpenJoinAt, Logical, Reading}
use Rattle.blif_lines.specs.declared.line.Token.{Token}
use Rattle.blif_lines.specs.declared.line.LogicalLine.{LogicalLine}
use Rattle.blif_lines.specs.declared.line.LineFault.{LineFault}
use Rattle.blif_lines.specs.declared.line.LineFault.TheVariants.{BadByte, OpenJoin, NoMemory}

-- a line with neither token nor flaw means nothing
abbrev pub pending : List Logical → List Logical
pending [] = []
pending (l ∷ ls) = unless_idle l l.tokens l.flaw ls (pending ls)
  where
    unless_idle : Logical → List Spot → Option Flaw → List Logical → List Logical → List Logical
    unless_idle l [] None ls later = later
    unless_idle l [] (Some f) ls later = l ∷ ls
    unless_idle l (s ∷ ss) f ls later = l ∷ ls

-- the token with its bytes in the text
abbrev pub spot_of : List ℕ → Token → Spot
spot_of text t = record { word = take (t.end - t.start) (drop t.start text); start = t.start; place = t.place }

pub record IsWithin (text : List ℕ) (t : Token) : Type 0 where
  pub some : t.start < t.end
  pub end : t.end ≤ length text
  pub column : t.place.column ≤ t.start + 1

-- what a reader that finds no flaw gives of the lines of a text, and the lines that it leaves
abbrev pub GivesLine : List ℕ → List Logical → List Logical → Option LogicalLine → Type 0
GivesLine text rest left None = (pending rest ≡ []) × (left ≡ [])
GivesLine text rest left (Some line) = pending rest ≡ record { tokens = map (spot_of text) line; flaw = None } ∷ left

abbrev pub Gives : Reading → Reading → Option LogicalLine → Type 0
Gives old new found = GivesLine old.text old.rest new.rest found

abbrev pub StandsFirst : Flaw → List Logical → Type 0
StandsFirst f [] = ⊥
StandsFirst f (l ∷ ls) = l.flaw ≡ Some f

-- want of memory is a free answer
abbrev pub IsFault : List Logical → LineFault → Type 0
IsFault rest (BadByte place) = StandsFirst (BadByteAt place) rest
IsFault rest (OpenJoin place) = StandsFirst (OpenJoinAt place) rest
IsFault rest NoMemory = Unit {0}
