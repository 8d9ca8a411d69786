-- Laws of chains.
use Rattle.std.specs.Prelude.{length, ℕ, ◌+◌, ◌≡◌, ◌≢◌, ◌≤◌}
use Rattle.local_evaluation.specs.Chains.{GoesOnTo}
use Rattle.local_evaluation.specs.Walks.{Walks}
use Rattle.gate_net.specs.Net.{IsAcyclic, IsLive, Net}
use Rattle.gate_net.specs.Paths.{IsInChain}

-- a walk begins at the gate
abbrev pub WalksBegin : Type 0
WalksBegin = (net : Net) (gate node : ℕ) → Walks net gate node gate 0

-- it goes on as the chain does
abbrev pub WalksGoOn : Type 0
WalksGoOn =
    (net : Net) (gate node at count y : ℕ) → Walks net gate node at count → at ≢ node → GoesOnTo net at y → Walks net gate node y (count + 1)

-- where it is at the node, that is in the chain; where it ends before, that isn't
abbrev pub WalksEnd : Type 0
WalksEnd =
    (net : Net) (gate node at count : ℕ) → Walks net gate node at count →
    (at ≡ node → IsInChain net gate node) × (at ≢ node → ((y : ℕ) → GoesOnTo net at y → ⊥) → IsInChain net gate node → ⊥)

-- and no walk is as long as the net has numbers
abbrev pub WalksAreShort : Type 0
WalksAreShort =
    (net : Net) (gate node at count : ℕ) → IsAcyclic net → IsLive net gate → length net.nodes ≤ count → Walks net gate node at count → ⊥
