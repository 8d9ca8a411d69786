-- The sides of a pin, byte by byte.
use Rattle.std.proofs.Common.{◌++◌, Option}
use Rattle.std.specs.Option.{option_map}
use Rattle.rm_base.specs.Words.{Word}

-- the sides with more bytes before them
abbrev pub behind_first : Word → Option (Word × Word) → Option (Word × Word)
behind_first xs o = option_map (λ (p : Word × Word). (xs ++ p.0, p.1)) o
