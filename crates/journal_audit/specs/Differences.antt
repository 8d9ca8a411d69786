-- Where texts differ.
use Rattle.std.specs.Prelude.{◌≡◌, ◌≢◌, ℕ, ◌+◌, List, take, slice_get}

-- the texts have the same bytes before that place, and differ at it, or one of them has ended
pub record DifferAfter (text other : List ℕ) (place : ℕ) : Type 0 where
  pub same : take place text ≡ take place other
  pub differ : slice_get text place ≢ slice_get other place

-- the byte, counted from 1
pub record DifferAt (text other : List ℕ) (byte : ℕ) : Type 0 where
  pub place : ℕ
  pub after : DifferAfter text other place
  pub counts : byte ≡ place + 1
