-- Equivalent faults, by the rules that look at one gate and at one wire.
use Rattle.std.specs.Prelude.{◌≡◌, ◌<◌, ◌⊎◌, ◌↔◌, ℕ, Bool, true, false, not, List, Option, None, Some, IsTrue, length, slice_get}
use Rattle.rm_base.specs.declared.numbers.Fault.{Fault}
use Rattle.gate_net.specs.declared.Kind.{Kind}
use Rattle.gate_net.specs.declared.Kind.TheVariants.{And, Or, Not}
use Rattle.gate_net.specs.Faults.{fault_at}
use Rattle.gate_net.specs.Net.{IsKind, IsObserved, Net, Reads}

-- the value that a gate has where an input is stuck at this one, whatever the others are
abbrev pub forced : Kind → Bool → Option Bool
forced And false = Some false
forced Or true = Some true
forced Not value = Some (not value)
forced kind value = None

-- the pin is the only one that the node drives, and the node isn't observed
pub record DrivesOnly (net : Net) (x gate position : ℕ) : Type 0 where
  pub reads : Reads net gate position x
  pub only : (y p : ℕ) → Reads net y p x → (y ≡ gate) × (p ≡ position)
  pub unobserved : IsObserved net x → ⊥

-- the stuck input forces its gate to that value
pub record Forces (net : Net) (fault : Fault) (value : Bool) : Type 0 where
  pub kind : Kind
  pub kind_is : IsKind net fault.gate.0 kind
  pub forced_is : forced kind fault.value ≡ Some value

-- the fault is equivalent to the other, which is told for it: both force their gate, and the other is that of its first input; or
-- the first input forces its gate to the value at which the only pin that the gate drives is stuck
abbrev pub Leads : Net → Fault → Fault → Type 0
Leads net fault other =
    (value : Bool) × (Forces net fault value
    × (((0 < fault.position) × (other ≡ fault_at fault.gate.0 0 fault.value)) ⊎ ((fault.position ≡ 0) × (DrivesOnly net fault.gate.0 other.gate.0 other.position × (other.value ≡ value)))))

-- no other is told for it: the last of its class. Each class has one, as one step leads from a gate to its reader
abbrev pub IsLastOfClass : Net → Fault → Type 0
IsLastOfClass net fault = (other : Fault) → Leads net fault other → ⊥

-- for each fault whether it is the last of its class
pub record AreLast (net : Net) (faults : List Fault) (lasts : List Bool) : Type 0 where
  pub size : length lasts ≡ length faults
  pub each : (j : ℕ) (fault : Fault) (is_last : Bool) → slice_get faults j ≡ Some fault → slice_get lasts j ≡ Some is_last → IsTrue is_last ↔ IsLastOfClass net fault
