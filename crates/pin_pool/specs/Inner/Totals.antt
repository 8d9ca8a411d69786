-- Beside Totals.antt: what only private contracts, invariants and laws speak of.
use Rattle.std.specs.Prelude.{◌≡◌, ℕ, zero, suc, ◌≤◌, List, [], ◌++◌, length, slice_index_or}
use Rattle.pin_pool.specs.Pins.{Pins, list_of}
use Rattle.pin_pool.specs.Totals.{linked_pins}

-- the pins of n lists, from a number on
abbrev pub listed_pins : (ℕ → List ℕ) → ℕ → ℕ → List ℕ
listed_pins f first zero = []
listed_pins f first (suc n) = f first ++ listed_pins f (suc first) n

abbrev pub count_at : List ℕ → ℕ → ℕ
count_at counts n = slice_index_or counts n 0

-- the inputs of each node are counted, and all together
pub record IsCounted (v : Pins) (counts : List ℕ) (linked : ℕ) : Type 0 where
  pub each : (n : ℕ) → count_at counts n ≡ length (list_of v.inputs n)
  pub room : length v.inputs ≤ length counts
  pub all : linked ≡ linked_pins v
