-- How many inputs there are.
use Rattle.std.specs.Prelude.{ℕ, zero, suc, ◌+◌, List, length}
use Rattle.pin_pool.specs.Pins.{Pins, list_of}

-- how many pins n lists have, from a number on
abbrev pub pins_from : (ℕ → List ℕ) → ℕ → ℕ → ℕ
pins_from f first zero = 0
pins_from f first (suc n) = length (f first) + pins_from f (suc first) n

-- how many pins are the inputs of a gate
abbrev pub linked_pins : Pins → ℕ
linked_pins v = pins_from (λ m. list_of v.inputs m) 0 (length v.inputs)
