-- Marks by stamps.
use Rattle.std.specs.Prelude.{Bool, List, [], nat_eq, slice_index, ℕ, ◌<◌, ◌≤◌, ◌∷◌}

-- a number is marked where its stamp is the present one
abbrev pub marks_of : ℕ → List ℕ → List Bool
marks_of present [] = []
marks_of present (stamp ∷ stamps) = nat_eq stamp present ∷ marks_of present stamps

-- no stamp is above the present one, which isn't 0
pub record AreStamped (present : ℕ) (stamps : List ℕ) : Type 0 where
  pub some : 0 < present
  pub below : (x : ℕ) → slice_index stamps x ≤ present
