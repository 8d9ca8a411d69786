-- A walk along the chain of a gate.
use Rattle.std.specs.Prelude.{List, length, ℕ, ◌≡◌}
use Rattle.gate_net.specs.Net.{Net}
use Rattle.gate_net.specs.Paths.{Among, ChainTo}

-- a walk along the chain that has come this far without the node
pub record Walks (net : Net) (gate node at count : ℕ) : Type 0 where
  pub before : List ℕ
  pub chain : ChainTo net gate before at
  pub long : length before ≡ count
  pub apart : Among before node → ⊥
