-- Weights as they are counted: none is greater than the greatest word.
use Rattle.std.specs.Prelude.{◌-◌, ◌^◌, ℕ, min}

abbrev pub capped : ℕ → ℕ
capped n = min n (2 ^ 64 - 1)
