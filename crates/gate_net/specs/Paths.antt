-- Paths and chains of a net.
use Rattle.std.specs.Prelude.{◌≡◌, ◌⊎◌, ℕ, List, [], ◌∷◌}
use Rattle.gate_net.specs.Net.{Net, Reads, IsObserved}

-- a path of one or more pins leads from x to y
pub data Reaches (net : Net) : ℕ → ℕ → Type 0 where
  pin : {x y : ℕ} (position : ℕ) → Reads net y position x → Reaches net x y
  on : {x z y : ℕ} (position : ℕ) → Reaches net x z → Reads net y position z → Reaches net x y

-- all pins that read x belong to y, and there is such a pin
pub record IsOnlyReader (net : Net) (x y : ℕ) : Type 0 where
  pub only : (z position : ℕ) → Reads net z position x → z ≡ y
  pub reads : (position : ℕ) × Reads net y position x

-- the chain that begins with the gate goes through these, the last first, to that node
pub data ChainTo (net : Net) (gate : ℕ) : List ℕ → ℕ → Type 0 where
  start : ChainTo net gate [] gate
  next : {before : List ℕ} {x y : ℕ} → ChainTo net gate before x → (IsObserved net x → ⊥) → IsOnlyReader net x y → ChainTo net gate (x ∷ before) y

abbrev pub IsInChain : Net → ℕ → ℕ → Type 0
IsInChain net gate y = (before : List ℕ) × ChainTo net gate before y

-- the node is in the list
abbrev pub Among : List ℕ → ℕ → Type 0
Among [] x = ⊥
Among (y ∷ ys) x = (x ≡ y) ⊎ Among ys x
