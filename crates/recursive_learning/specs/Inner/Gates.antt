-- The justifications of a gate, and that each of them implies nothing.
use Rattle.std.specs.Prelude.{Bool, List, None, Option, Some, length, slice_get, ℕ, ◌≡◌, ◌≤◌}
use Rattle.gate_net.specs.Net.{Net, Reads}
use Rattle.gate_net.specs.Values.{IsJunction}
use Rattle.refutation.specs.Facts.{Held, known_good}
use Rattle.refutation.specs.Learning.{HasFew, HasLearned, IsClosedAt, IsJustification, IsUnjustified}
use Rattle.rm_base.specs.declared.numbers.Fault.{Fault}

-- the different justifications of a gate, of which there are few
pub record AreJustifications (net : Net) (held : Held) (y : ℕ) (ds : List ℕ) : Type 0 where
  pub each : (k d : ℕ) → slice_get ds k ≡ Some d → IsJustification net held y d
  pub all : (d : ℕ) → IsJustification net held y d → (k : ℕ) × (slice_get ds k ≡ Some d)
  pub few : length ds ≤ 8

-- no driver is known to have the value
abbrev pub NoneGives : Net → Held → ℕ → Bool → Type 0
NoneGives net held y c = (p d : ℕ) → Reads net y p d → known_good held d ≡ Some c → ⊥

-- the controlling value that the gate has while no driver is known to give it
abbrev pub IsWanted : Net → Held → ℕ → Option Bool → Type 0
IsWanted net held y None = (c : Bool) → IsUnjustified net held y c → ⊥
IsWanted net held y (Some c) = IsJunction net y c × ((known_good held y ≡ Some c) × NoneGives net held y c)

-- what is known under each justification of the gate is held already
abbrev pub HasTaught : Net → Fault → ℕ → Held → ℕ → Type 0
HasTaught net fault depth held y =
    (c : Bool) → IsUnjustified net held y c → HasFew net held y → HasLearned net (IsClosedAt net fault depth) held y c
