-- What main steps leave of a gated net.
use Rattle.std.specs.Prelude.{Some, length, slice_get, None, ℕ, ◌+◌, ◌<◌, ◌≡◌, ◌≤◌, ◌⊎◌}
use Rattle.gate_net.specs.Net.{IsWellFormed, Net, Reads, node_at, source_count}
use Rattle.joined_nets.specs.Growing.{and_gate}
use Rattle.joined_nets.specs.Joined.{both, first_gate}
use Rattle.care_opt.specs.Gated.{care_node, gated_net, numbers_from}

-- no gate of the first net
abbrev pub IsNoMain : Net → ℕ → Type 0
IsNoMain one x = (x < first_gate one) ⊎ (length one.nodes ≤ x)

-- the first net is small enough to stand before the gating Ands, and the second reads no main gate
pub record CanGate (one two : Net) : Type 0 where
  pub early : first_gate one ≤ length one.nodes
  pub later : length one.nodes ≤ length (both one two)
  pub apart : (y p x : ℕ) → length one.nodes ≤ y → y < length (both one two) → Reads (gated_net one two) y p x → IsNoMain one x × (x < length (both one two))
  pub care : IsNoMain one (care_node one two)
  pub within : care_node one two < length (both one two)

-- a gated net of these two whose main part is another: main gates read lower nodes, and the rest is as it was
pub record IsGatedOver (one two net : Net) : Type 0 where
  pub formed : IsWellFormed net
  pub sources : source_count net ≡ source_count one
  pub order : (y p x : ℕ) → y < length one.nodes → Reads net y p x → x < y
  pub moved : ℕ → ℕ
  pub plain : (x : ℕ) → IsNoMain one x → moved x ≡ x
  pub low : (k x : ℕ) → slice_get one.observed k ≡ Some x → moved x < length one.nodes
  pub theirs : (y : ℕ) → length one.nodes ≤ y → y < length (both one two) → node_at net y ≡ node_at (gated_net one two) y
  pub gates : (k x : ℕ) → slice_get one.observed k ≡ Some x → node_at net (length (both one two) + k) ≡ Some (and_gate (moved x) (care_node one two))
  pub last : (y : ℕ) → length (both one two) + length one.observed ≤ y → node_at net y ≡ None
  pub observed : net.observed ≡ numbers_from (length (both one two)) one.observed

-- main gates read lower nodes, no plain node is above the sources, and gating Ands read main nodes at pin 0
pub record IsExtractable (bound : ℕ) (net : Net) : Type 0 where
  pub early : first_gate net ≤ bound
  pub order : (y p x : ℕ) → y < bound → Reads net y p x → x < y
  pub gates : (k y : ℕ) → slice_get net.observed k ≡ Some y → (d : ℕ) × (Reads net y 0 d × (d < bound))
