-- What a terminal may be sent: characters that it shows, line ends, and colours.
use Rattle.std.specs.Prelude.{◌≡◌, ◌==◌, ◌&&◌, ◌||◌, ℕ, Bool, List, if◌then◌else◌, nat_lt}
use Rattle.std.specs.List.{fold}

-- a printable character of ASCII
abbrev pub is_printable : ℕ → Bool
is_printable byte = nat_lt 31 byte && nat_lt byte 127

-- Where a terminal stands in what it is sent: among characters, behind the byte ESC, among the digits of a colour, or behind
-- anything else.
pub data Stand : Type 0 where
  Characters : Stand
  Escape : Stand
  Colour : Stand
  Other : Stand

abbrev pub among_characters : ℕ → Stand
among_characters byte = if is_printable byte || byte == 10 then Characters else if byte == 27 then Escape else Other

abbrev pub among_digits : ℕ → Stand
among_digits byte = if byte == 109 then Characters else if nat_lt 47 byte && nat_lt byte 60 then Colour else Other

abbrev pub behind : Stand → ℕ → Stand
behind Characters byte = among_characters byte
behind Escape byte = if byte == 91 then Colour else Other
behind Colour byte = among_digits byte
behind Other byte = Other

abbrev pub stand_after : Stand → List ℕ → Stand
stand_after stand text = fold behind stand text

-- printable ASCII and line ends, and whole sequences ESC [ .. m, which choose a colour, between them
abbrev pub IsTerminalText : List ℕ → Type 0
IsTerminalText text = stand_after Characters text ≡ Characters
