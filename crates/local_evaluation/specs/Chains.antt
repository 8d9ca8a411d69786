-- How a chain goes on.
use Rattle.std.specs.Prelude.{None, Option, Some, ℕ}
use Rattle.gate_net.specs.Net.{IsObserved, Net}
use Rattle.gate_net.specs.Paths.{IsOnlyReader}
use Rattle.rm_base.specs.declared.numbers.NodeId.{NodeId}

-- a chain goes on from the node to that one
pub record GoesOnTo (net : Net) (x y : ℕ) : Type 0 where
  pub unobserved : IsObserved net x → ⊥
  pub only : IsOnlyReader net x y

-- the node to which a chain goes on, or None exactly where it ends
abbrev pub IsNextInChain : Net → ℕ → Option NodeId → Type 0
IsNextInChain net x None = (y : ℕ) → GoesOnTo net x y → ⊥
IsNextInChain net x (Some y) = GoesOnTo net x y.0
