-- The lists of readers, and how they change.
use Rattle.std.specs.Prelude.{◌≡◌, ◌≢◌, ℕ, ◌-◌, ◌==◌, ◌&&◌, nat_lt, Bool, List, [], ◌∷◌, ◌++◌, length, map, Some, slice_get, if◌then◌else◌}
use Rattle.gate_net.specs.Net.{drivers_of, Reads}
use Rattle.gate_graph.specs.Circuit.{Circuit, net_of, fanouts_of}
use Rattle.gate_graph.specs.Spots.{places_from, without_gate}

abbrev pub is_place : ℕ × ℕ → ℕ × ℕ → Bool
is_place place other = (other.0 == place.0) && (other.1 == place.1)

-- each node's list has every pin that reads the node, once, and nothing else
pub record ListReaders (v : Circuit) : Type 0 where
  pub reads : (n k : ℕ) (place : ℕ × ℕ) → slice_get (fanouts_of v n) k ≡ Some place → Reads (net_of v) place.0 place.1 n
  pub all : (n : ℕ) (place : ℕ × ℕ) → Reads (net_of v) place.0 place.1 n → (k : ℕ) × (slice_get (fanouts_of v n) k ≡ Some place)
  pub once : (n k l : ℕ) (place : ℕ × ℕ) → slice_get (fanouts_of v n) k ≡ Some place → slice_get (fanouts_of v n) l ≡ Some place → k ≡ l

-- the same readers in the same order
abbrev pub SameReaders : Circuit → Circuit → Type 0
SameReaders v w = (n : ℕ) → fanouts_of w n ≡ fanouts_of v n

-- the pins of a new gate are the last readers of their drivers, in order
abbrev pub NewReaders : Circuit → Circuit → ℕ → List ℕ → Type 0
NewReaders v w gate drivers = (n : ℕ) → fanouts_of w n ≡ fanouts_of v n ++ places_from gate 0 drivers n

-- the gate's last pin is the last reader of the driver
pub record LastReader (v w : Circuit) (gate driver : ℕ) : Type 0 where
  pub there : fanouts_of w driver ≡ fanouts_of v driver ++ (gate, length (drivers_of (net_of v) gate)) ∷ []
  pub others : (n : ℕ) → n ≢ driver → fanouts_of w n ≡ fanouts_of v n

-- all readers of one node are the last of another, in their order
pub record ReadersMove (v w : Circuit) (from to : ℕ) : Type 0 where
  pub there : fanouts_of w to ≡ fanouts_of v to ++ fanouts_of v from
  pub gone : fanouts_of w from ≡ []
  pub others : (n : ℕ) → n ≢ from → n ≢ to → fanouts_of w n ≡ fanouts_of v n

abbrev pub without_place : ℕ × ℕ → List (ℕ × ℕ) → List (ℕ × ℕ)
without_place place [] = []
without_place place (x ∷ xs) = if is_place place x then without_place place xs else x ∷ without_place place xs

-- one reader becomes the last of the driver
pub record ReaderMoves (v w : Circuit) (gate position driver : ℕ) : Type 0 where
  pub there : fanouts_of w driver ≡ without_place (gate, position) (fanouts_of v driver) ++ (gate, position) ∷ []
  pub others : (n : ℕ) → n ≢ driver → fanouts_of w n ≡ without_place (gate, position) (fanouts_of v n)

-- a position from which an earlier one is gone
abbrev pub lowered_by : ℕ → ℕ → ℕ
lowered_by k m = if nat_lt k m then m - 1 else m

abbrev pub lowered : ℕ → ℕ → ℕ × ℕ → ℕ × ℕ
lowered gate k place = if place.0 == gate then (place.0, lowered_by k place.1) else place

-- the reader goes, and later ones of its gate have one position less
abbrev pub ReaderGoes : Circuit → Circuit → ℕ → ℕ → Type 0
ReaderGoes v w gate position =
    (n : ℕ) → fanouts_of w n ≡ map (lowered gate position) (without_place (gate, position) (fanouts_of v n))

-- all readers that are pins of the gate go
abbrev pub GateGoes : Circuit → Circuit → ℕ → Type 0
GateGoes v w gate = (n : ℕ) → fanouts_of w n ≡ without_gate gate (fanouts_of v n)
