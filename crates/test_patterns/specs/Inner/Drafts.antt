-- Patterns that are still being added.
use Rattle.std.specs.Prelude.{◌≡◌, ◌<◌, ℕ, Bool, List, Option, None, Some, length, slice_get}
use Rattle.rm_base.specs.declared.numbers.Fault.{Fault}
use Rattle.gate_net.specs.Net.{Net}
use Rattle.gate_net.specs.Values.{HasPin}
use Rattle.gate_net.specs.Faults.{IsTest}
use Rattle.test_patterns.specs.TestSets.{IsFirst, IsPattern}

abbrev pub HavePins : Net → List Fault → Type 0
HavePins net faults = (k : ℕ) (fault : Fault) → slice_get faults k ≡ Some fault → HasPin net fault

-- no fault stands under a pattern
abbrev pub AreEmpty : List (Option ℕ) → Type 0
AreEmpty firsts = (j i : ℕ) → slice_get firsts j ≡ Some (Some i) → ⊥

-- a vector is known for the fault of that number, and it stands under no pattern
pub record IsOpen (numbers firsts : List (Option ℕ)) (j : ℕ) : Type 0 where
  pub number : ℕ
  pub known : slice_get numbers j ≡ Some (Some number)
  pub none : slice_get firsts j ≡ Some None

-- no open fault is detected by the vector
abbrev pub IsDone : Net → List Fault → List (Option ℕ) → List (Option ℕ) → List Bool → Type 0
IsDone net faults numbers firsts vector =
    (j : ℕ) (fault : Fault) → IsOpen numbers firsts j → slice_get faults j ≡ Some fault → IsTest net fault vector → ⊥

-- each fault that doesn't stand under the first pattern that detects it is open, and no pattern detects an open one
pub record IsDraft (net : Net) (faults : List Fault) (vectors : List (List Bool)) (numbers : List (Option ℕ)) (patterns : List ℕ) (firsts : List (Option ℕ)) : Type 0 where
  pub size : length firsts ≡ length faults
  pub first : (j i : ℕ) → slice_get firsts j ≡ Some (Some i) → IsFirst net faults vectors patterns j i
  pub known : (j i : ℕ) → slice_get firsts j ≡ Some (Some i) → (number : ℕ) × (slice_get numbers j ≡ Some (Some number))
  pub done : (i : ℕ) (vector : List Bool) → IsPattern vectors patterns i vector → IsDone net faults numbers firsts vector
  pub used : (i : ℕ) → i < length patterns → (j : ℕ) × (slice_get firsts j ≡ Some (Some i))

-- with more faults that stand under patterns, none is open that was not
pub record HasFewer (old new : List (Option ℕ)) : Type 0 where
  pub size : length new ≡ length old
  pub fewer : (j : ℕ) → slice_get new j ≡ Some None → slice_get old j ≡ Some None

-- patterns were added, after which no open fault is detected by the vector
pub record IsExtended (net : Net) (faults : List Fault) (vectors : List (List Bool)) (numbers : List (Option ℕ)) (patterns : List ℕ) (old new : List (Option ℕ)) (vector : List Bool) : Type 0 where
  pub draft : IsDraft net faults vectors numbers patterns new
  pub fewer : HasFewer old new
  pub done : IsDone net faults numbers new vector

-- patterns were added, after which the fault of that number isn't open
pub record IsClosed (net : Net) (faults : List Fault) (vectors : List (List Bool)) (numbers : List (Option ℕ)) (patterns : List ℕ) (old new : List (Option ℕ)) (j : ℕ) : Type 0 where
  pub draft : IsDraft net faults vectors numbers patterns new
  pub fewer : HasFewer old new
  pub closed : IsOpen numbers new j → ⊥
