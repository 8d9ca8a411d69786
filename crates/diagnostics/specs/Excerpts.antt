-- A line of a file with a mark below one of its columns.
use Rattle.std.specs.Prelude.{ℕ, ◌-◌, Bool, List, ◌++◌, ◌∷◌, [], take, drop, length, min, replicate, codes}
use Rattle.diagnostics.specs.Escaping.{escaped, in_lines}
use Rattle.diagnostics.specs.Messages.{coloured, green}

-- how many bytes of the line stand before the column; columns count from 1
abbrev pub bytes_before : List ℕ → ℕ → ℕ
bytes_before line column = min (column - 1) (length line)

-- at most 40 bytes are shown before the column, and at most 40 from it on
abbrev pub before_column : List ℕ → ℕ → List ℕ
before_column line column = drop (bytes_before line column - 40) (take (bytes_before line column) line)

abbrev pub from_column : List ℕ → ℕ → List ℕ
from_column line column = take 40 (drop (bytes_before line column) line)

-- what is shown of the line
abbrev pub upper_line : List ℕ → ℕ → List ℕ
upper_line line column = in_lines (codes "  ") ++ (escaped (before_column line column) ++ (escaped (from_column line column) ++ in_lines (10 ∷ [])))

-- so many blanks, and the mark
abbrev pub lower_line : Bool → ℕ → List ℕ
lower_line colours width = in_lines (codes "  ") ++ (replicate width 32 ++ (coloured colours green (codes "^") ++ in_lines (10 ∷ [])))

-- what is shown of the line, and the mark ^ below its column: one blank stands below each character that is shown before it
abbrev pub excerpt : Bool → List ℕ → ℕ → List ℕ
excerpt colours line column = upper_line line column ++ lower_line colours (length (escaped (before_column line column)))
