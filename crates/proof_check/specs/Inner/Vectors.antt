-- A vector in the first lane.
use Rattle.std.specs.Prelude.{Bool, if◌then◌else◌, ℕ}

abbrev pub bit_word : Bool → ℕ
bit_word b = if b then 1 else 0
