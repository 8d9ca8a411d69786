-- What stands in a list.
use Rattle.std.specs.Prelude.{◌≡◌, ◌<◌, ℕ, List, [], ◌∷◌, Some, slice_get, ◌⊎◌}

-- the element is one of the list
abbrev pub In : {A : Type 0} → List A → A → Type 0
In [] y = ⊥
In (x ∷ xs) y = (x ≡ y) ⊎ In xs y

-- the number stands in the list before a place
abbrev pub AmongFirst : List ℕ → ℕ → ℕ → Type 0
AmongFirst xs i z = (k : ℕ) × ((k < i) × (slice_get xs k ≡ Some z))
