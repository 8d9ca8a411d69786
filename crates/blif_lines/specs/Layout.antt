-- The layout of a text: its logical lines, each with its tokens and its first layout fault. It is said of the whole list
-- of physical lines.
use Rattle.std.specs.Prelude.{◌==◌, ◌+◌, ℕ, Bool, true, false, not, ◌&&◌, ◌||◌, nat_lt, List, [], ◌∷◌, ◌++◌, map, filter, if◌then◌else◌, Option, None, Some}
use Rattle.std.specs.List.{list_all}
use Rattle.rm_base.specs.declared.numbers.Place.{Place}

-- a byte with its offset in the text and its place
pub record Mark : Type 0 where
  pub byte : ℕ
  pub start : ℕ
  pub place : Place

-- the place behind this byte
abbrev pub behind : ℕ → Place → Place
behind b place = if b == 10 then record { line = place.line + 1; column = 1 } else record { line = place.line; column = place.column + 1 }

-- the bytes from this offset and place on
abbrev pub marked : ℕ → Place → List ℕ → List Mark
marked start place [] = []
marked start place (b ∷ bs) = record { byte = b; start = start; place = place } ∷ marked (start + 1) (behind b place) bs

-- the pieces after each LF; an empty last piece is no line
abbrev pub onto_first : Mark → List (List Mark) → List (List Mark)
onto_first m [] = (m ∷ []) ∷ []
onto_first m (p ∷ ps) = (m ∷ p) ∷ ps

abbrev pub physical_lines : List Mark → List (List Mark)
physical_lines [] = []
physical_lines (m ∷ ms) = if m.byte == 10 then [] ∷ physical_lines ms else onto_first m (physical_lines ms)

-- what stands before the first `#`
abbrev pub without_comment : List Mark → List Mark
without_comment [] = []
without_comment (m ∷ ms) = if m.byte == 35 then [] else m ∷ without_comment ms

-- blank, tab and CR
abbrev pub is_blank : Mark → Bool
is_blank m = (m.byte == 32) || ((m.byte == 9) || (m.byte == 13))

-- the joining backslash: the last byte that is no blank, where it is a backslash
abbrev pub joint : List Mark → Option Mark
joint [] = None
joint (m ∷ ms) = if list_all is_blank ms then (if m.byte == 92 then Some m else None) else joint ms

-- what stands before it
abbrev pub before_joint : List Mark → List Mark
before_joint [] = []
before_joint (m ∷ ms) = if list_all is_blank ms then [] else m ∷ before_joint ms

-- the runs between blanks, some of them empty
abbrev pub runs : List Mark → List (List Mark)
runs [] = [] ∷ []
runs (m ∷ ms) = if is_blank m then [] ∷ runs ms else onto_first m (runs ms)

-- a token: its bytes, the offset in the text and the place of the first of them
pub record Spot : Type 0 where
  pub word : List ℕ
  pub start : ℕ
  pub place : Place

abbrev pub spots : List (List Mark) → List Spot
spots [] = []
spots ([] ∷ rs) = spots rs
spots ((m ∷ ms) ∷ rs) = record { word = m.byte ∷ map (λ (n : Mark). n.byte) ms; start = m.start; place = m.place } ∷ spots rs

abbrev pub tokens_in : List Mark → List Spot
tokens_in line = spots (runs line)

-- a control byte other than blanks, or a backslash that ends its token
abbrev pub ends_token : List Mark → Bool
ends_token [] = true
ends_token (m ∷ ms) = is_blank m

abbrev pub is_control : Mark → Bool
is_control m = not (is_blank m) && (nat_lt m.byte 32 || (m.byte == 127))

pub data Flaw : Type 0 where
  BadByteAt : Place → Flaw
  OpenJoinAt : Place → Flaw

-- the first bad byte of a line from which the joining backslash is cut
abbrev pub first_bad : List Mark → Option Flaw
first_bad [] = None
first_bad (m ∷ ms) = if is_control m || ((m.byte == 92) && ends_token ms) then Some (BadByteAt m.place) else first_bad ms

abbrev pub earlier : Option Flaw → Option Flaw → Option Flaw
earlier None later = later
earlier (Some f) later = Some f

pub record Logical : Type 0 where
  pub tokens : List Spot
  pub flaw : Option Flaw

abbrev pub single : List Mark → Logical
single line = record { tokens = tokens_in line; flaw = first_bad line }

-- a line in front of the logical line to which the backslash joins it; where there is none, the join is open
abbrev pub join_to : Mark → List Mark → List Logical → List Logical
join_to m line [] = record { tokens = tokens_in line; flaw = earlier (first_bad line) (Some (OpenJoinAt m.place)) } ∷ []
join_to m line (l ∷ ls) = record { tokens = tokens_in line ++ l.tokens; flaw = earlier (first_bad line) l.flaw } ∷ ls

abbrev pub with_line : List Mark → Option Mark → List Logical → List Logical
with_line line None ls = single line ∷ ls
with_line line (Some m) ls = join_to m (before_joint line) ls

abbrev pub logical_lines : List (List Mark) → List Logical
logical_lines [] = []
logical_lines (p ∷ ps) = with_line (without_comment p) (joint (without_comment p)) (logical_lines ps)

abbrev pub layout_from : ℕ → Place → List ℕ → List Logical
layout_from start place text = logical_lines (physical_lines (marked start place text))

abbrev pub layout : List ℕ → List Logical
layout text = layout_from 0 (record { line = 1; column = 1 }) text

-- the words of the logical lines that have some
abbrev pub words_in : Logical → List (List ℕ)
words_in l = map (λ (s : Spot). s.word) l.tokens

abbrev pub has_words : List (List ℕ) → Bool
has_words [] = false
has_words (w ∷ ws) = true

abbrev pub lines_of : List ℕ → List (List (List ℕ))
lines_of text = filter has_words (map words_in (layout text))

-- what a reader of lines has: the text, and the logical lines still to come
pub record Reading : Type 0 where
  pub text : List ℕ
  pub rest : List Logical
