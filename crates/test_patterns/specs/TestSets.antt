-- Patterns for the faults of a net, and which of them is the first to detect each fault.
use Rattle.std.specs.Prelude.{◌≡◌, ◌<◌, ℕ, Bool, List, Option, None, Some, length, slice_get}
use Rattle.rm_base.specs.declared.numbers.Fault.{Fault}
use Rattle.gate_net.specs.Net.{Net}
use Rattle.gate_net.specs.Faults.{IsTest}

-- the fault of that number has a known vector, and the vector detects it
pub record HasKnown (net : Net) (faults : List Fault) (vectors : List (List Bool)) (j number : ℕ) : Type 0 where
  pub fault : Fault
  pub fault_is : slice_get faults j ≡ Some fault
  pub vector : List Bool
  pub vector_is : slice_get vectors number ≡ Some vector
  pub test : IsTest net fault vector

-- so does each that is said to have one
abbrev pub AreKnown : Net → List Fault → List (List Bool) → List (Option ℕ) → Type 0
AreKnown net faults vectors numbers = (j number : ℕ) → slice_get numbers j ≡ Some (Some number) → HasKnown net faults vectors j number

-- the vector that is the pattern of that number
abbrev pub IsPattern : List (List Bool) → List ℕ → ℕ → List Bool → Type 0
IsPattern vectors patterns i vector = (number : ℕ) × ((slice_get patterns i ≡ Some number) × (slice_get vectors number ≡ Some vector))

-- that pattern detects the fault of that number, and none before it does
pub record IsFirst (net : Net) (faults : List Fault) (vectors : List (List Bool)) (patterns : List ℕ) (j i : ℕ) : Type 0 where
  pub fault : Fault
  pub fault_is : slice_get faults j ≡ Some fault
  pub vector : List Bool
  pub pattern_is : IsPattern vectors patterns i vector
  pub test : IsTest net fault vector
  pub before : (k : ℕ) (other : List Bool) → k < i → IsPattern vectors patterns k other → IsTest net fault other → ⊥

-- each fault with a known vector stands under the first pattern that detects it, the others under none, and under each pattern
-- stands a fault
pub record AreTests (net : Net) (faults : List Fault) (vectors : List (List Bool)) (numbers : List (Option ℕ)) (patterns : List ℕ) (firsts : List (Option ℕ)) : Type 0 where
  pub size : length firsts ≡ length faults
  pub first : (j i : ℕ) → slice_get firsts j ≡ Some (Some i) → IsFirst net faults vectors patterns j i
  pub known : (j i : ℕ) → slice_get firsts j ≡ Some (Some i) → (number : ℕ) × (slice_get numbers j ≡ Some (Some number))
  pub none : (j number : ℕ) → slice_get firsts j ≡ Some None → slice_get numbers j ≡ Some (Some number) → ⊥
  pub used : (i : ℕ) → i < length patterns → (j : ℕ) × (slice_get firsts j ≡ Some (Some i))
