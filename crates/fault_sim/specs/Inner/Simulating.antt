-- Beside Simulating.antt: what only private contracts, invariants and laws speak of.
use Rattle.std.specs.Prelude.{List, Some, length, map, slice_get, slice_index, ℕ, ◌<◌, ◌≡◌}
use Rattle.gate_net.specs.Net.{Net, drivers_of, node_at}
use Rattle.fault_sim.specs.Words.{assigned_word}
use Rattle.fault_sim.specs.Inner.Words.{node_word}
use Rattle.fault_sim.specs.Simulating.{AreNoOthers}

-- each node of the order has a number below the bound
abbrev pub IsWithin : List ℕ → ℕ → Type 0
IsWithin order n = (k x : ℕ) → slice_get order k ≡ Some x → x < n

-- the node's word is that of its function of the words that it reads
abbrev pub IsGoodAt : Net → List ℕ → List ℕ → ℕ → Type 0
IsGoodAt net words good x = slice_index good x ≡ node_word (node_at net x) (assigned_word words x) (map (slice_index good) (drivers_of net x))

-- the first nodes of the order have their words
pub record AreRead (net : Net) (words order good : List ℕ) (numbers i : ℕ) : Type 0 where
  pub size : length good ≡ numbers
  pub others : AreNoOthers order good
  pub read : (k x : ℕ) → k < i → slice_get order k ≡ Some x → IsGoodAt net words good x
