-- Beside Names.antt: what only private contracts, invariants and laws speak of.
use Rattle.std.specs.Prelude.{◌+◌, ℕ, length, Some, ◌≡◌, ◌<◌, ◌⊎◌}
use Rattle.rm_model.specs.Value.{source_names}
use Rattle.rm_model.specs.declared.parts.Model.{Model}
use Rattle.gate_net.specs.Net.{Net, Node, node_at, IsGateKind}
use Rattle.rm_base.specs.Numbers.{first_source}

-- the number of a source
abbrev pub IsSourceNumber : Model → ℕ → Type 0
IsSourceNumber m x = (k : ℕ) × ((x ≡ first_source + k) × (k < length (source_names m)))

-- the number of a gate
pub record IsGateNumber (net : Net) (x : ℕ) : Type 0 where
  pub node : Node
  pub at : node_at net x ≡ Some node
  pub gate : IsGateKind node.kind

-- sources and gates have names of their own
abbrev pub HasName : Model → Net → ℕ → Type 0
HasName m net x = IsSourceNumber m x ⊎ IsGateNumber net x
