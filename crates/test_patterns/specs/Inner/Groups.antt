-- A group of vectors in the lanes of words, and the open faults that they detect.
use Rattle.std.specs.Prelude.{◌≡◌, ◌⊎◌, ◌<◌, ◌↔◌, ℕ, Bool, false, List, Option, None, Some, IsTrue, length, slice_get, if◌then◌else◌}
use Rattle.rm_base.specs.declared.numbers.Fault.{Fault}
use Rattle.gate_net.specs.Net.{Net}
use Rattle.gate_net.specs.Values.{Detects}
use Rattle.gate_net.specs.Faults.{assigned}
use Rattle.fault_sim.specs.Words.{assignment, lane}
use Rattle.test_patterns.specs.Inner.Drafts.{IsOpen}
use Rattle.test_patterns.specs.declared.gathering.Caught.{Caught}

-- the word of a value, in the first lane
abbrev pub bit_word : Bool → ℕ
bit_word b = if b then 1 else 0

-- the lane of the words is that vector
pub record IsLaneOf (words : List ℕ) (i : ℕ) (vector : List Bool) : Type 0 where
  pub size : length vector ≡ length words
  pub same : assignment words i ≡ assigned vector

-- the word says which lanes detect the fault
abbrev pub Says : Net → List ℕ → Fault → ℕ → Type 0
Says net words fault word = (i : ℕ) → i < 64 → IsTrue (lane i word) ↔ Detects net fault (assignment words i)

-- a fault with a known vector, and which lanes detect it
pub record IsCaught (net : Net) (faults : List Fault) (numbers : List (Option ℕ)) (words : List ℕ) (one : Caught) : Type 0 where
  pub number : ℕ
  pub known : slice_get numbers one.at ≡ Some (Some number)
  pub fault : Fault
  pub fault_is : slice_get faults one.at ≡ Some fault
  pub says : Says net words fault one.lanes

-- the fault of that number is among them
pub record IsAmong (caught : List Caught) (j : ℕ) : Type 0 where
  pub place : ℕ
  pub one : Caught
  pub there : slice_get caught place ≡ Some one
  pub at_is : one.at ≡ j

-- no lane detects the fault
abbrev pub IsMissed : Net → List ℕ → Fault → Type 0
IsMissed net words fault = (i : ℕ) → i < 64 → Detects net fault (assignment words i) → ⊥

-- they are faults of the net, and each open fault is among them, or no lane detects it
pub record AreGathered (net : Net) (faults : List Fault) (numbers firsts : List (Option ℕ)) (words : List ℕ) (caught : List Caught) : Type 0 where
  pub each : (k : ℕ) (one : Caught) → slice_get caught k ≡ Some one → IsCaught net faults numbers words one
  pub all : (j : ℕ) (fault : Fault) → IsOpen numbers firsts j → slice_get faults j ≡ Some fault → IsAmong caught j ⊎ IsMissed net words fault

-- the same of the first so many faults
pub record AreGatheredBefore (net : Net) (faults : List Fault) (numbers firsts : List (Option ℕ)) (words : List ℕ) (caught : List Caught) (count : ℕ) : Type 0 where
  pub each : (k : ℕ) (one : Caught) → slice_get caught k ≡ Some one → IsCaught net faults numbers words one
  pub all : (j : ℕ) (fault : Fault) → j < count → IsOpen numbers firsts j → slice_get faults j ≡ Some fault → IsAmong caught j ⊎ IsMissed net words fault

-- a fault of the first so many that the lane detects
pub record IsTaken (caught : List Caught) (count i j : ℕ) : Type 0 where
  pub place : ℕ
  pub one : Caught
  pub early : place < count
  pub there : slice_get caught place ≡ Some one
  pub at_is : one.at ≡ j
  pub detects : IsTrue (lane i one.lanes)

-- open faults among the first so many that the lane detects stand under the pattern now, and all others stay; and whether there were any
pub record AreMarked (caught : List Caught) (count i pattern : ℕ) (old new : List (Option ℕ)) (any : Bool) : Type 0 where
  pub size : length new ≡ length old
  pub each : (j : ℕ) → (slice_get new j ≡ slice_get old j) ⊎ ((slice_get old j ≡ Some None) × ((slice_get new j ≡ Some (Some pattern)) × IsTaken caught count i j))
  pub all : (j : ℕ) → IsTaken caught count i j → slice_get new j ≡ Some None → ⊥
  pub some : IsTrue any → (j : ℕ) × (slice_get new j ≡ Some (Some pattern))
  pub none : any ≡ false → new ≡ old
