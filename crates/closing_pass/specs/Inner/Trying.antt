-- Trying kept vectors on the faults that are still sought.
use Rattle.std.specs.Prelude.{◌≡◌, ◌≤◌, ◌<◌, ◌+◌, ◌⊎◌, ℕ, Bool, List, Option, Some, length, slice_get, slice_set}
use Rattle.fault_sim.specs.Words.{assignment}
use Rattle.gate_net.specs.Faults.{IsTest, assigned}
use Rattle.gate_net.specs.Net.{Net}
use Rattle.gate_net.specs.Values.{Detects}
use Rattle.rm_base.specs.declared.numbers.Fault.{Fault}
use Rattle.closing_pass.specs.declared.finding.Finding.{Finding}
use Rattle.closing_pass.specs.declared.finding.Finding.TheVariants.{Detected}
use Rattle.closing_pass.specs.Inner.Findings.{IsSought}

-- so many lanes of the words have the kept vectors from one number on
abbrev pub AreInLanes : List (List Bool) → ℕ → ℕ → List ℕ → Type 0
AreInLanes kept first count words = (i : ℕ) → i < count → (v : List Bool) × ((slice_get kept (first + i) ≡ Some v) × ((x : ℕ) → assignment words i x ≡ assigned v x))

-- none of the vectors from one number up to another detects the fault
abbrev pub IsMissed : Net → List (List Bool) → ℕ → ℕ → Fault → Type 0
IsMissed net kept from to fault = (k : ℕ) (v : List Bool) → from ≤ k → k < to → slice_get kept k ≡ Some v → Detects net fault (assigned v) → ⊥

-- one of them detects it
pub record IsHit (net : Net) (kept : List (List Bool)) (from to : ℕ) (fault : Fault) (number : ℕ) : Type 0 where
  pub vector : List Bool
  pub there : slice_get kept number ≡ Some vector
  pub first : from ≤ number
  pub last : number < to
  pub test : IsTest net fault vector

-- the finding stays, and where it is sought none of them detects the fault; or one does, and that was found
abbrev pub IsTriedAt : Net → List (List Bool) → ℕ → ℕ → Fault → Option Finding → Option Finding → Type 0
IsTriedAt net kept from to fault old new =
    ((new ≡ old) × ((f : Finding) → old ≡ Some f → IsSought f → IsMissed net kept from to fault))
    ⊎ ((number : ℕ) × (IsHit net kept from to fault number × (new ≡ Some (Detected number))))

-- the same of one place, where all others stay
abbrev pub HasTriedOn : Net → List (List Bool) → ℕ → ℕ → Fault → ℕ → List Finding → List Finding → Type 0
HasTriedOn net kept from to fault place old new =
    ((new ≡ old) × ((f : Finding) → slice_get old place ≡ Some f → IsSought f → IsMissed net kept from to fault))
    ⊎ ((number : ℕ) × (IsHit net kept from to fault number × (new ≡ slice_set old place (Detected number))))

-- the same of each fault
pub record HasTried (net : Net) (kept : List (List Bool)) (from to : ℕ) (faults : List Fault) (old new : List Finding) : Type 0 where
  pub size : length new ≡ length old
  pub each : (j : ℕ) (fault : Fault) → slice_get faults j ≡ Some fault → IsTriedAt net kept from to fault (slice_get old j) (slice_get new j)

-- the same of the faults before one place, where all from there on stay
pub record HasTriedBefore (net : Net) (kept : List (List Bool)) (from to : ℕ) (faults : List Fault) (place : ℕ) (old new : List Finding) : Type 0 where
  pub size : length new ≡ length old
  pub each : (j : ℕ) (fault : Fault) → j < place → slice_get faults j ≡ Some fault → IsTriedAt net kept from to fault (slice_get old j) (slice_get new j)
  pub rest : (j : ℕ) → place ≤ j → slice_get new j ≡ slice_get old j
