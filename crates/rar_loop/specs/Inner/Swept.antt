-- How far a sweep has come: pin by pin, gate by gate, pass by pass.
use Rattle.std.specs.Prelude.{◌≡◌, ◌<◌, ◌⊎◌, ℕ, Bool, true, false, List, Option, Some, None, length}
use Rattle.rm_base.specs.declared.numbers.Fault.{Fault}
use Rattle.gate_net.specs.Net.{Net, drivers_of, wire_count}
use Rattle.refutation.specs.Branches.{AreAccepted}
use Rattle.refutation.specs.Detected.{HasOpenSet}
use Rattle.refutation.specs.declared.items.Item.{Item}
use Rattle.rar_loop.specs.Swept.{IsSwept}

-- an accepted tree, or such a set
abbrev pub IsLooked : Net → Fault → ℕ → Option (List Item) → Type 0
IsLooked net fault depth (Some tree) = AreAccepted net fault tree
IsLooked net fault depth None = HasOpenSet net fault depth

-- a refuted fault of the gate
pub record IsRefutedAt (net : Net) (gate : ℕ) (fault : Fault) (tree : List Item) : Type 0 where
  pub gate_is : fault.gate.0 ≡ gate
  pub pin : fault.position < length (drivers_of net gate)
  pub accepted : AreAccepted net fault tree

-- a refuted fault of the gate, or a set for both values of the pin
abbrev pub IsLookedAtPin : Net → ℕ → ℕ → ℕ → Option (Fault × List Item) → Type 0
IsLookedAtPin net gate position depth None = (value : Bool) → HasOpenSet net (record { gate = record { 0 = gate }; position = position; value = value }) depth
IsLookedAtPin net gate position depth (Some found) = IsRefutedAt net gate found.0 found.1

-- both values of each pin of the gate have such a set
abbrev pub IsOpenAtGate : Net → ℕ → ℕ → Type 0
IsOpenAtGate net gate depth =
    (position : ℕ) (value : Bool) → position < length (drivers_of net gate) → HasOpenSet net (record { gate = record { 0 = gate }; position = position; value = value }) depth

-- a refuted fault of the gate, or a set for each of its pins and both values
abbrev pub IsLookedAtGate : Net → ℕ → ℕ → Option (Fault × List Item) → Type 0
IsLookedAtGate net gate depth None = IsOpenAtGate net gate depth
IsLookedAtGate net gate depth (Some found) = IsRefutedAt net gate found.0 found.1

-- fewer wires where a pin of the gate was fixed; else the same net, and no pin of the gate is refuted
abbrev pub HasLookedAt : Net → Net → ℕ → ℕ → Bool → Type 0
HasLookedAt net after gate depth true = wire_count after < wire_count net
HasLookedAt net after gate depth false = (after ≡ net) × IsOpenAtGate net gate depth

-- fewer wires where a pin was fixed; else the same net, and no pin of the first gates is refuted
abbrev pub HasPassed : Net → Net → ℕ → ℕ → Bool → Type 0
HasPassed net after depth gates true = wire_count after < wire_count net
HasPassed net after depth gates false = (after ≡ net) × ((gate : ℕ) → gate < gates → IsOpenAtGate net gate depth)

-- a swept net, which is the same net or has fewer wires
pub record HasSwept (net after : Net) (depth : ℕ) : Type 0 where
  pub swept : IsSwept after depth
  pub pays : (after ≡ net) ⊎ (wire_count after < wire_count net)
