-- What a reader cuts from the front of a line, and how that is seen on the whole line.
use Rattle.std.specs.Prelude.{◌≡◌, ◌≤◌, ◌<◌, ◌+◌, ◌-◌, ◌==◌, ℕ, suc, Bool, true, false, not, ◌&&◌, ◌||◌, nat_lt, List, [], ◌∷◌, ◌++◌, length, take, drop, Option, None, Some, if◌then◌else◌}
use Rattle.rm_base.specs.declared.numbers.Place.{Place}
use Rattle.blif_lines.specs.Layout.{Mark, Spot, Flaw, BadByteAt, OpenJoinAt, Logical, marked, joint, before_joint, tokens_in, first_bad, earlier, layout_from}
use Rattle.blif_lines.specs.declared.scan.Piece.{Piece}
use Rattle.blif_lines.specs.declared.scan.Piece.TheVariants.{Word, Bad, Close, Join}

-- how many bytes at the front pass the test
abbrev pub front : (ℕ → Bool) → List ℕ → ℕ
front test [] = 0
front test (b ∷ bs) = if test b then suc (front test bs) else 0

abbrev pub is_blank_byte : ℕ → Bool
is_blank_byte b = (b == 32) || ((b == 9) || (b == 13))

abbrev pub is_control_byte : ℕ → Bool
is_control_byte b = not (is_blank_byte b) && (not (b == 10) && (nat_lt b 32 || (b == 127)))

abbrev pub is_inner : ℕ → Bool
is_inner b = not (b == 10)

-- what stands at the front, if anything
abbrev pub begins : (ℕ → Bool) → List ℕ → Bool
begins test [] = false
begins test (b ∷ bs) = test b

abbrev pub is_closed : List ℕ → Bool
is_closed [] = true
is_closed (b ∷ bs) = (b == 10) || (b == 35)

-- the place of the next LF, or the end
abbrev pub line_end_of : List ℕ → ℕ → ℕ
line_end_of text at = at + front is_inner (drop at text)

-- a line as far as its comment or LF
abbrev pub content : List Mark → List Mark
content [] = []
content (m ∷ ms) = if (m.byte == 10) || (m.byte == 35) then [] else m ∷ content ms

pub record Cut : Type 0 where
  pub tokens : List Spot
  pub flaw : Option Flaw
  pub joint : Option Mark

-- the line without its joining backslash
abbrev pub kept_at : List Mark → Option Mark → List Mark
kept_at line None = line
kept_at line (Some m) = before_joint line

abbrev pub kept : List Mark → List Mark
kept line = kept_at line (joint line)

abbrev pub cut_of : List Mark → Cut
cut_of line = record { tokens = tokens_in (kept line); flaw = first_bad (kept line); joint = joint line }

abbrev pub cut_from : List ℕ → ℕ → Place → Cut
cut_from text at place = cut_of (content (marked at place (drop at text)))

abbrev pub moved : Place → ℕ → Place
moved place n = record { line = place.line; column = place.column + n }

abbrev pub spot_between : List ℕ → ℕ → ℕ → Place → Spot
spot_between text start end place = record { word = take (end - start) (drop start text); start = start; place = place }

abbrev pub spots_between : List ℕ → ℕ → ℕ → Place → List Spot
spots_between text start end place = if nat_lt start end then spot_between text start end place ∷ [] else []

abbrev pub with_spot : Spot → Cut → Cut
with_spot s c = record c { tokens = s ∷ c.tokens }

-- the piece stands at the front of what is left of the line
pub record IsWord (text : List ℕ) (at start end : ℕ) : Type 0 where
  pub begin : at ≤ start
  pub some : start < end
  pub within : end ≤ length text
  pub cut : (p : Place) → cut_from text at p ≡ with_spot (spot_between text start end (moved p (start - at))) (cut_from text end (moved p (end - at)))
  pub line_end : line_end_of text at ≡ line_end_of text end

pub record IsBad (text : List ℕ) (at bad : ℕ) : Type 0 where
  pub begin : at ≤ bad
  pub within : bad < length text
  pub cut : (p : Place) → (cut_from text at p).flaw ≡ Some (BadByteAt (moved p (bad - at)))

pub record IsClose (text : List ℕ) (at end : ℕ) : Type 0 where
  pub begin : at ≤ end
  pub within : end ≤ length text
  pub cut : (p : Place) → cut_from text at p ≡ record { tokens = []; flaw = None; joint = None }
  pub line_end : line_end_of text at ≡ line_end_of text end

pub record IsJoin (text : List ℕ) (at start end after : ℕ) : Type 0 where
  pub begin : at ≤ start
  pub some : start ≤ end
  pub slash : end < after
  pub within : after ≤ length text
  pub cut : (p : Place) → cut_from text at p ≡ record { tokens = spots_between text start end (moved p (start - at)); flaw = None; joint = Some (record { byte = 92; start = end; place = moved p (end - at) }) }
  pub line_end : line_end_of text at ≡ line_end_of text after

abbrev pub Tells : List ℕ → ℕ → Piece → Type 0
Tells text at (Word start end) = IsWord text at start end
Tells text at (Bad bad) = IsBad text at bad
Tells text at (Close end) = IsClose text at end
Tells text at (Join start end after) = IsJoin text at start end after

-- the logical lines, the first of which begins with such a cut
abbrev pub closed_at : Cut → Option Mark → List Logical → List Logical
closed_at c None ls = record { tokens = c.tokens; flaw = c.flaw } ∷ ls
closed_at c (Some m) [] = record { tokens = c.tokens; flaw = earlier c.flaw (Some (OpenJoinAt m.place)) } ∷ []
closed_at c (Some m) (l ∷ ls) = record { tokens = c.tokens ++ l.tokens; flaw = earlier c.flaw l.flaw } ∷ ls

abbrev pub closed : Cut → List Logical → List Logical
closed c ls = closed_at c c.joint ls

abbrev pub line_start : ℕ → Place
line_start n = record { line = n; column = 1 }

-- the logical lines from this place within a line on
abbrev pub lines_from : List ℕ → ℕ → Place → List Logical
lines_from text at place = closed (cut_from text at place) (layout_from (line_end_of text at + 1) (line_start (place.line + 1)) (drop (line_end_of text at + 1) text))

-- more tokens in front of the first line
abbrev pub extend : List Spot → List Logical → List Logical
extend done [] = []
extend done (l ∷ ls) = record { tokens = done ++ l.tokens; flaw = l.flaw } ∷ ls

abbrev pub place_at : ℕ → ℕ → ℕ → Place
place_at line start at = record { line = line; column = (at - start) + 1 }
