-- The limit on decompositions.
use Rattle.std.specs.Prelude.{ℕ}

-- a decomposition has at most so many wires
abbrev pub most_pins : ℕ
most_pins = 65536
