-- Beside Search.antt: what only private contracts, invariants and laws speak of.
use Rattle.std.specs.Prelude.{◌≡◌, ℕ, ◌<◌, ◌≤◌, ◌+◌, List, length, Some, Bool, slice_get, slice_index, ◌⊎◌}
use Rattle.gate_net.specs.Net.{Net, Reads}
use Rattle.gate_net.specs.Paths.{Reaches}
use Rattle.gate_graph.specs.Search.{IsSeen, unseen}

-- each marked node stands in the queue between two places, and what stands there is marked
pub record ListsSeen (seen : List Bool) (queue : List ℕ) (first end : ℕ) : Type 0 where
  pub listed : (z : ℕ) → IsSeen seen z → (k : ℕ) × ((first ≤ k) × ((k < end) × (slice_index queue k ≡ z)))
  pub within : (k : ℕ) → k < end → slice_index queue k < length seen

-- what leads to the node is marked, or the other is
pub record MarksBack (net : Net) (from to : ℕ) (seen : List Bool) : Type 0 where
  pub sound : IsSeen seen from → Reaches net from to
  pub all : Reaches net from to → IsSeen seen from

-- the drivers were marked, and the new ones put into the queue
pub record Marked (drivers : List ℕ) (seen seen' : List Bool) (queue queue' : List ℕ) (end end' : ℕ) : Type 0 where
  pub room : end' + unseen seen' ≤ length queue
  pub kept : (y : ℕ) → IsSeen seen y → IsSeen seen' y
  pub all : (p y : ℕ) → slice_get drivers p ≡ Some y → IsSeen seen' y
  pub below : (k : ℕ) → k < end → slice_index queue' k ≡ slice_index queue k
  pub new : (y : ℕ) → IsSeen seen' y → IsSeen seen y ⊎ (((p : ℕ) × (slice_get drivers p ≡ Some y)) × ((k : ℕ) × ((k < end') × (slice_index queue' k ≡ y))))
  pub queued : (k : ℕ) → end ≤ k → k < end' → IsSeen seen' (slice_index queue' k)
  pub grows : end ≤ end'

-- a search back from a node that has come this far
pub record Searched (net : Net) (to : ℕ) (seen : List Bool) (queue : List ℕ) (next end : ℕ) : Type 0 where
  pub room : end + unseen seen ≤ length queue
  pub order : next ≤ end
  pub sound : (y : ℕ) → IsSeen seen y → Reaches net y to
  pub first : (p y : ℕ) → Reads net to p y → IsSeen seen y
  pub done : (k : ℕ) → k < next → (p y : ℕ) → Reads net (slice_index queue k) p y → IsSeen seen y
  pub listed : (z : ℕ) → IsSeen seen z → (k : ℕ) × ((k < end) × (slice_index queue k ≡ z))
  pub queued : (k : ℕ) → k < end → IsSeen seen (slice_index queue k)
