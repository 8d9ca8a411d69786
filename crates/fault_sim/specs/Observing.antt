-- In which lanes the other value of a node is seen at an observed node.
use Rattle.std.specs.Prelude.{Bool, IsTrue, List, Option, Some, map, not, slice_get, ℕ, ◌<◌, ◌≡◌, ◌≢◌, ◌↔◌}
use Rattle.gate_net.specs.Net.{IsObserved, Net, drivers_of, node_at}
use Rattle.gate_net.specs.Values.{AreGoodValues, node_value}
use Rattle.fault_sim.specs.Words.{assignment, lane}

-- the node is forced to b, and each other value is that of the node's function of what it reads
pub record AreForcedValues (net : Net) (x : ℕ) (b : Bool) (a f : ℕ → Bool) : Type 0 where
  pub there : f x ≡ b
  pub others : (y : ℕ) → y ≢ x → f y ≡ node_value (node_at net y) (a y) (map f (drivers_of net y))

-- where the node is forced to b, an observed node differs from its good value
abbrev pub IsSeenForced : Net → ℕ → Bool → (ℕ → Bool) → Type 0
IsSeenForced net x b a =
    (v : ℕ → Bool) × ((f : ℕ → Bool) × (AreGoodValues net a v × (AreForcedValues net x b a f × ((y : ℕ) × (IsObserved net y × (v y ≢ f y))))))

-- where the node is forced to the opposite of its good value, an observed node differs
abbrev pub IsObservable : Net → ℕ → (ℕ → Bool) → Type 0
IsObservable net x a = (v : ℕ → Bool) × (AreGoodValues net a v × IsSeenForced net x (not (v x)) a)

-- the lanes under whose assignments the node is observable
abbrev pub IsObservability : Net → List ℕ → ℕ → ℕ → Type 0
IsObservability net words x w = (i : ℕ) → i < 64 → IsTrue (lane i w) ↔ IsObservable net x (assignment words i)

-- each word that is noted is the observability of its node
abbrev pub AreObservabilities : List (Option ℕ) → Net → List ℕ → Type 0
AreObservabilities notes net words = (x w : ℕ) → slice_get notes x ≡ Some (Some w) → IsObservability net words x w
