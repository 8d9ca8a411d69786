-- How bytes from outside are shown.
use Rattle.std.specs.Prelude.{ℕ, ◌+◌, ◌/◌, ◌%◌, ◌==◌, List, [], ◌∷◌, ◌++◌, if◌then◌else◌, nat_lt, take, length, codes}
use Rattle.std.specs.List.{flat_map}
use Rattle.diagnostics.specs.Terminal.{is_printable}

-- the digit of a number below 16
abbrev pub hex_digit : ℕ → ℕ
hex_digit digit = if nat_lt digit 10 then 48 + digit else 87 + digit

-- a printable character as it is, and any other byte as \xNN
abbrev pub escape : ℕ → List ℕ
escape byte = if is_printable byte then byte ∷ [] else 92 ∷ 120 ∷ hex_digit (byte / 16 % 16) ∷ hex_digit (byte % 16) ∷ []

abbrev pub escaped : List ℕ → List ℕ
escaped bytes = flat_map escape bytes

-- a text of the program's own keeps its line ends
abbrev pub escape_in_text : ℕ → List ℕ
escape_in_text byte = if byte == 10 then 10 ∷ [] else escape byte

abbrev pub in_lines : List ℕ → List ℕ
in_lines text = flat_map escape_in_text text

-- at most 60 bytes of a word, and dots for the rest
abbrev pub shown_word : List ℕ → List ℕ
shown_word word = if nat_lt 60 (length word) then escaped (take 60 word) ++ codes ".." else escaped word
