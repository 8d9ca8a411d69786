-- How a vector that changes a gate passes the change on.
use Rattle.std.specs.Prelude.{◌≡◌, ◌≢◌, ◌<◌, ◌↔◌, ◌⊎◌, ℕ, Bool, IsTrue, List, map, slice_index, slice_set}
use Rattle.rm_base.specs.declared.numbers.Fault.{Fault}
use Rattle.gate_net.specs.Net.{Net, Reads, IsObserved, drivers_of, node_at}
use Rattle.gate_net.specs.Values.{AreGoodValues, Detects, HasPin, node_value}
use Rattle.fault_sim.specs.Words.{assignment, lane}
use Rattle.journal_check.specs.declared.tracing.Passage.{Passage}
use Rattle.journal_check.specs.declared.tracing.Passage.TheVariants.{Told, Stem, Passed}
use Rattle.journal_check.specs.declared.tracing.Followed.{Followed}
use Rattle.journal_check.specs.declared.tracing.Followed.TheVariants.{Known, Left}

-- the value of the fault's gate where its drivers have the good values
abbrev pub stuck_value : Net → Fault → (ℕ → Bool) → (ℕ → Bool) → Bool
stuck_value net fault a v =
    node_value (node_at net fault.gate.0) (a fault.gate.0) (slice_set (map v (drivers_of net fault.gate.0)) fault.position fault.value)

-- each fault of the gate that changes it is detected
abbrev pub IsShown : Net → (ℕ → Bool) → ℕ → Type 0
IsShown net a x =
    (v : ℕ → Bool) → AreGoodValues net a v → (fault : Fault) → fault.gate.0 ≡ x → stuck_value net fault a v ≢ v x → Detects net fault a

-- of each node, the lanes in which it is known to be so
abbrev pub AreShown : Net → List ℕ → List ℕ → Type 0
AreShown net words shown = (x i : ℕ) → i < 64 → IsTrue (lane i (slice_index shown x)) → IsShown net (assignment words i) x

-- nothing is new but that a change of that node is seen in these lanes
abbrev pub AddsShown : List ℕ → ℕ → ℕ → List ℕ → Type 0
AddsShown old x lanes new =
    (y i : ℕ) → IsTrue (lane i (slice_index new y)) → IsTrue (lane i (slice_index old y)) ⊎ ((y ≡ x) × IsTrue (lane i lanes))

-- nothing but that pin reads the node
pub record IsOnlyPin (net : Net) (x y q : ℕ) : Type 0 where
  pub reads : Reads net y q x
  pub only : (z p : ℕ) → Reads net z p x → (z ≡ y)
  pub once : (p : ℕ) → Reads net y p x → (p ≡ q)
  pub unobserved : IsObserved net x → ⊥

-- whether the fault is detected, or a fault of a later gate that is detected where it is
abbrev pub PassageSays : Net → (ℕ → Bool) → Fault → Passage → Type 0
PassageSays net a fault (Told found) = IsTrue found ↔ Detects net fault a
PassageSays net a fault Stem = Unit {0}
PassageSays net a fault (Passed next) = HasPin net next × (Detects net fault a ↔ Detects net next a)

abbrev pub FollowedSays : Net → (ℕ → Bool) → Fault → Followed → Type 0
FollowedSays net a fault (Known found) = IsTrue found ↔ Detects net fault a
FollowedSays net a fault (Left next) = HasPin net next × (Detects net fault a ↔ Detects net next a)
