-- The kept vectors that findings have.
use Rattle.std.specs.Prelude.{◌≡◌, ◌∷◌, [], ℕ, Bool, true, false, List, Some, length, slice_get, slice_set}
use Rattle.closing_pass.specs.declared.finding.Finding.{Finding}
use Rattle.closing_pass.specs.declared.finding.Finding.TheVariants.{Detected}

-- the vectors with a mark, in order
abbrev pub marked_of : List Bool → List (List Bool) → List (List Bool)
marked_of [] vectors = []
marked_of (mark ∷ marks) [] = []
marked_of (true ∷ marks) (v ∷ vectors) = v ∷ marked_of marks vectors
marked_of (false ∷ marks) (v ∷ vectors) = marked_of marks vectors

-- the number of the finding's vector was marked, where it has one
abbrev pub HasMarked : Finding → List Bool → List Bool → Type 0
HasMarked (Detected number) marks marks' = marks' ≡ slice_set marks number true
HasMarked _ marks marks' = marks' ≡ marks

-- the numbers of the vectors that findings have are marked, and no others
pub record AreMarks (found : List Finding) (marks : List Bool) : Type 0 where
  pub each : (j number : ℕ) → slice_get found j ≡ Some (Detected number) → slice_get marks number ≡ Some true
  pub only : (number : ℕ) → slice_get marks number ≡ Some true → (j : ℕ) × (slice_get found j ≡ Some (Detected number))

-- those of the kept vectors that findings have, each once, in order
pub record AreUsed (kept : List (List Bool)) (found : List Finding) (used : List (List Bool)) : Type 0 where
  pub marks : List Bool
  pub size : length marks ≡ length kept
  pub marked : AreMarks found marks
  pub are : used ≡ marked_of marks kept
