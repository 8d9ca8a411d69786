-- An order of the nodes in which dead numbers may stand.
use Rattle.std.specs.Prelude.{List, None, Some, slice_get, ℕ, ◌<◌, ◌≡◌, ◌≢◌}
use Rattle.gate_net.specs.Net.{Net, Reads, node_at}

-- each live node stands at one place, after its drivers; a dead number may have a place too
pub record IsOrdered (net : Net) (xs : List ℕ) : Type 0 where
  pub all : (x : ℕ) → node_at net x ≢ None → (k : ℕ) × (slice_get xs k ≡ Some x)
  pub once : (k l x : ℕ) → slice_get xs k ≡ Some x → slice_get xs l ≡ Some x → k ≡ l
  pub before : (k l x y position : ℕ) → slice_get xs k ≡ Some x → slice_get xs l ≡ Some y → Reads net y position x → k < l
