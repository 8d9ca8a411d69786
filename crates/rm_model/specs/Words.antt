-- The words of the format.
use Rattle.std.specs.Prelude.{ℕ, Bool, codes}
use Rattle.std.specs.Str.{bytes_eq}
use Rattle.rm_model.specs.declared.parts.Literal.{Literal}
use Rattle.rm_model.specs.declared.parts.Literal.TheVariants.{Zero, One, Any}
use Rattle.rm_model.specs.declared.parts.LatchKind.{LatchKind}
use Rattle.rm_model.specs.declared.parts.LatchKind.TheVariants.{Fe, Re, Ah, Al, As}
use Rattle.rm_base.specs.Words.{Word}

abbrev pub is_word : Word → Word → Bool
is_word a b = bytes_eq a b

abbrev pub literal_byte : Literal → ℕ
literal_byte Zero = 48
literal_byte One = 49
literal_byte Any = 45

abbrev pub kind_word : LatchKind → Word
kind_word Fe = codes "fe"
kind_word Re = codes "re"
kind_word Ah = codes "ah"
kind_word Al = codes "al"
kind_word As = codes "as"
