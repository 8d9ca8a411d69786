-- Words of a text.
use Rattle.std.specs.Prelude.{ℕ, Bool, List, ◌==◌, ◌&&◌, not, nat_lt}

-- a name or a word: its bytes
abbrev pub Word : Type 0
Word = List ℕ

-- a byte of a word: no blank, tab or line end, no other control byte, and no `#`, at which a comment starts
abbrev pub is_word_byte : ℕ → Bool
is_word_byte b = nat_lt 32 b && (not (b == 35) && not (b == 127))
