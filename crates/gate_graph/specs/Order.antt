-- The nodes in an order in which drivers come before their readers, and how far it has come.
use Rattle.std.specs.Prelude.{◌≡◌, ◌≢◌, ℕ, suc, ◌<◌, true, List, [], ◌∷◌, ◌++◌, length, Some, None, slice_get, slice_index, if◌then◌else◌}
use Rattle.gate_net.specs.Net.{Net, node_at, Reads}
use Rattle.pin_pool.specs.Ring.{has}
use Rattle.pin_pool.specs.Pins.{list_of}
use Rattle.gate_graph.specs.Wirings.{kind_at}
use Rattle.gate_graph.specs.Circuit.{Circuit, gate_pins, home}

-- each live node once, and nothing else, every driver before its readers
pub record IsOrder (net : Net) (xs : List ℕ) : Type 0 where
  pub live : (k x : ℕ) → slice_get xs k ≡ Some x → node_at net x ≢ None
  pub all : (x : ℕ) → node_at net x ≢ None → (k : ℕ) × (slice_get xs k ≡ Some x)
  pub once : (k l x : ℕ) → slice_get xs k ≡ Some x → slice_get xs l ≡ Some x → k ≡ l
  pub before : (k l x y position : ℕ) → slice_get xs k ≡ Some x → slice_get xs l ≡ Some y → Reads net y position x → k < l

-- how many pins of a list aren't seen
abbrev pub unseen_in : List ℕ → List ℕ → ℕ
unseen_in seen [] = 0
unseen_in seen (x ∷ xs) = if has x seen then unseen_in seen xs else suc (unseen_in seen xs)

-- the pin's driver is listed before the place
abbrev pub IsDriven : Circuit → List ℕ → ℕ → ℕ → Type 0
IsDriven v xs end p = (j : ℕ) × ((j < end) × (slice_get xs j ≡ Some (home v.pool.fanouts p)))

-- each live number has the count of its pins that aren't seen, and those with none are listed
pub record IsCounted (v : Circuit) (left xs seen : List ℕ) : Type 0 where
  pub sizes : length left ≡ length v.kinds
  pub live : (k x : ℕ) → slice_get xs k ≡ Some x → kind_at v.kinds x ≢ None
  pub once : (k l x : ℕ) → slice_get xs k ≡ Some x → slice_get xs l ≡ Some x → k ≡ l
  pub counts : (g : ℕ) → kind_at v.kinds g ≢ None → slice_index left g ≡ unseen_in seen (gate_pins v.pool g)
  pub listed : (g : ℕ) → kind_at v.kinds g ≢ None → slice_index left g ≡ 0 → (k : ℕ) × (slice_get xs k ≡ Some g)
  pub ready : (k g : ℕ) → slice_get xs k ≡ Some g → slice_index left g ≡ 0
  pub before : (k g p : ℕ) → slice_get xs k ≡ Some g → has p (gate_pins v.pool g) ≡ true → IsDriven v xs k p

-- and some readers of the node there
pub record IsFollowing (v : Circuit) (left xs : List ℕ) (next node : ℕ) (ys : List ℕ) : Type 0 where
  pub seen : List ℕ
  pub counted : IsCounted v left xs (seen ++ ys)
  pub here : slice_get xs next ≡ Some node
  pub from : (p : ℕ) → has p seen ≡ true → IsDriven v xs next p
  pub ours : (p : ℕ) → has p ys ≡ true → home v.pool.fanouts p ≡ node
  pub done : (k x p : ℕ) → k < next → slice_get xs k ≡ Some x → has p (list_of v.pool.fanouts x) ≡ true → has p seen ≡ true

-- the numbers below one have their counts, and those of no pin are listed
pub record IsStarted (v : Circuit) (left xs : List ℕ) (n : ℕ) : Type 0 where
  pub sizes : length left ≡ n
  pub within : (k x : ℕ) → slice_get xs k ≡ Some x → x < n
  pub live : (k x : ℕ) → slice_get xs k ≡ Some x → kind_at v.kinds x ≢ None
  pub once : (k l x : ℕ) → slice_get xs k ≡ Some x → slice_get xs l ≡ Some x → k ≡ l
  pub counts : (g : ℕ) → g < n → slice_index left g ≡ length (gate_pins v.pool g)
  pub listed : (g : ℕ) → g < n → kind_at v.kinds g ≢ None → slice_index left g ≡ 0 → (k : ℕ) × (slice_get xs k ≡ Some g)
  pub ready : (k g : ℕ) → slice_get xs k ≡ Some g → slice_index left g ≡ 0
