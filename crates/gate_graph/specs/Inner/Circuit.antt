-- Beside Circuit.antt: what only private contracts, invariants and laws speak of.
use Rattle.std.specs.Prelude.{◌≡◌, ◌≢◌, ℕ, ◌<◌, ◌≤◌, List, length, Option, None}
use Rattle.gate_net.specs.declared.Kind.{Kind}
use Rattle.gate_graph.specs.Wirings.{kind_at, IsWired}
use Rattle.rm_base.specs.Numbers.{number_bound}
use Rattle.gate_graph.specs.Circuit.{Circuit, wiring}

-- what holds of every graph
pub record IsGraph (v : Circuit) : Type 0 where
  pub wired : IsWired (wiring v)
  pub room : length v.kinds ≤ length v.pool.inputs
  pub few : length v.kinds ≤ number_bound

-- each number below a bound has a kind
abbrev pub kinds_live : List (Option Kind) → ℕ → Type 0
kinds_live kinds n = (m : ℕ) → m < n → kind_at kinds m ≢ None

-- no number from a bound on has a kind
abbrev pub kinds_dead : List (Option Kind) → ℕ → Type 0
kinds_dead kinds n = (m : ℕ) → n ≤ m → kind_at kinds m ≡ None
