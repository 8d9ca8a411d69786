-- Beside Built.antt: what only private contracts, invariants and laws speak of.
use Rattle.std.specs.Prelude.{◌≡◌, ◌<◌, ◌≤◌, ℕ, List, [], ◌∷◌, ◌++◌, length, replicate, Some, sum_by, slice_get}
use Rattle.std.specs.List.{AllByRecursion}
use Rattle.gate_net.specs.declared.Kind.TheVariants.{Source, Zero, One, Not, Xor}
use Rattle.gate_net.specs.Net.{IsGateKind, Node}
use Rattle.cover_decompose.specs.Decomposition.{plain}
use Rattle.cover_decompose.specs.Limits.{most_pins}

abbrev pub AllBelow : ℕ → List ℕ → Type 0
AllBelow n xs = AllByRecursion (λ x. x < n) xs

-- a gate with at least one pin, a Not with one and an Xor with two
pub record IsGateNode (n : Node) : Type 0 where
  pub kind : IsGateKind n.kind
  pub one : n.kind ≡ Not → (d : ℕ) × (n.drivers ≡ d ∷ [])
  pub two : n.kind ≡ Xor → (d e : ℕ) × (n.drivers ≡ d ∷ e ∷ [])
  pub reads : 0 < length n.drivers

-- the constants, so many sources, and gates that read nodes before them, with few wires in all
pub record IsBuildable (made : List Node) (sources : ℕ) : Type 0 where
  pub gates : List Node
  pub made_is : made ≡ (plain Zero ∷ plain One ∷ replicate sources (plain Source)) ++ gates
  pub are_gates : AllByRecursion IsGateNode gates
  pub below : (y : ℕ) (n : Node) → slice_get made y ≡ Some n → AllBelow y n.drivers
  pub few_sources : sources ≤ 1024
  pub few_wires : sum_by (λ (n : Node). length n.drivers) made ≤ most_pins
