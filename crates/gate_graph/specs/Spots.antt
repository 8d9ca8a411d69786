-- Lists of places: pairs of a gate and a position.
use Rattle.std.specs.Prelude.{ℕ, suc, ◌==◌, List, [], ◌∷◌, if◌then◌else◌}

-- the places from a position on whose driver is the node
abbrev pub places_from : ℕ → ℕ → List ℕ → ℕ → List (ℕ × ℕ)
places_from gate position [] n = []
places_from gate position (d ∷ ds) n = if d == n then (gate, position) ∷ places_from gate (suc position) ds n else places_from gate (suc position) ds n

-- the places of other gates
abbrev pub without_gate : ℕ → List (ℕ × ℕ) → List (ℕ × ℕ)
without_gate gate [] = []
without_gate gate (x ∷ xs) = if x.0 == gate then without_gate gate xs else x ∷ without_gate gate xs
