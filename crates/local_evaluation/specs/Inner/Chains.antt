-- Beside Chains.antt: what only private contracts, invariants and laws speak of.
use Rattle.std.specs.Prelude.{None, Option, Some, ℕ}
use Rattle.gate_net.specs.Net.{Net}
use Rattle.gate_net.specs.Paths.{IsOnlyReader}
use Rattle.rm_base.specs.declared.numbers.NodeId.{NodeId}

abbrev pub IsOnlyReaderFound : Net → ℕ → Option NodeId → Type 0
IsOnlyReaderFound net x None = (y : ℕ) → IsOnlyReader net x y → ⊥
IsOnlyReaderFound net x (Some y) = IsOnlyReader net x y.0
