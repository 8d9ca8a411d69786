-- On which places what is known of gates rests.
use Rattle.std.specs.Prelude.{List, Some, slice_get, ℕ, ◌++◌, ◌≡◌}
use Rattle.recursive_learning.specs.declared.resting.Rest.{Rest}

-- for how many node numbers, and the entries in order
pub record RestsState : Type 0 where
  pub numbers : ℕ
  pub entries : List Rest

-- what is known of the gate rests on the place
abbrev pub IsWatched : List Rest → ℕ → ℕ → Type 0
IsWatched entries z y = (k : ℕ) × ((e : Rest) × ((slice_get entries k ≡ Some e) × ((e.place ≡ z) × (e.gate ≡ y))))

-- entries came at the end
abbrev pub IsLonger : List Rest → List Rest → Type 0
IsLonger old new = (rest : List Rest) × (new ≡ old ++ rest)
