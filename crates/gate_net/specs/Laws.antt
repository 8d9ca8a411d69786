-- Laws of nets and their values.
use Rattle.std.specs.Prelude.{◌≡◌, ◌≢◌, ◌∷◌, ℕ, [], map, Some, Bool, not}
use Rattle.rm_base.specs.declared.numbers.Fault.{Fault}
use Rattle.gate_net.specs.declared.Kind.{Kind}
use Rattle.gate_net.specs.declared.Kind.TheVariants.{Not}
use Rattle.gate_net.specs.Net.{Net, Reads, drivers_of, IsKind, IsLive, IsAcyclic, HasConstants}
use Rattle.gate_net.specs.Values.{AreGoodValues, AreFaultyValues, IsRun, SameObserved, IsUndetected, controlling}
use Rattle.gate_net.specs.Paths.{Reaches, IsInChain}
use Rattle.gate_net.specs.Edits.{fixed, with_pin, last_pin, with_readers_moved}

-- there is one valuation for each assignment, and only one
abbrev pub ValuesExist : Type 0
ValuesExist =
    (net : Net) → IsAcyclic net → (a : ℕ → Bool) → (v : ℕ → Bool) × (AreGoodValues net a v × ((w : ℕ → Bool) → AreGoodValues net a w → (x : ℕ) → v x ≡ w x))

-- and one faulty valuation
abbrev pub FaultyValuesExist : Type 0
FaultyValuesExist =
    (net : Net) (fault : Fault) → IsAcyclic net → (a : ℕ → Bool) → (f : ℕ → Bool) × (AreFaultyValues net fault a f × ((w : ℕ → Bool) → AreFaultyValues net fault a w → (x : ℕ) → f x ≡ w x))

-- what the fault doesn't reach has one value in both
abbrev pub OutsideIsEqual : Type 0
OutsideIsEqual =
    (net : Net) (fault : Fault) → IsAcyclic net → (a v f : ℕ → Bool) → IsRun net fault a v f → (y : ℕ) → y ≢ fault.gate.0 → (Reaches net fault.gate.0 y → ⊥) → v y ≡ f y

-- where a node of the chain is equal, no observed node differs
abbrev pub ChainsDecide : Type 0
ChainsDecide =
    (net : Net) (fault : Fault) → IsAcyclic net → (a v f : ℕ → Bool) → IsRun net fault a v f → (y : ℕ) → IsInChain net fault.gate.0 y → v y ≡ f y → SameObserved net v f

-- a stuck pin that reads what it is stuck at changes nothing
abbrev pub IdlePinsChangeNothing : Type 0
IdlePinsChangeNothing =
    (net : Net) (fault : Fault) → IsAcyclic net → (a v f : ℕ → Bool) → IsRun net fault a v f → (driver : ℕ) → Reads net fault.gate.0 fault.position driver → v driver ≡ fault.value → (y : ℕ) → v y ≡ f y

-- every observed node has the same value under every assignment
abbrev pub KeepsValues : Net → Net → Type 0
KeepsValues net after = (a v w : ℕ → Bool) → AreGoodValues net a v → AreGoodValues after a w → SameObserved net v w

-- every observed place has the same value under every assignment
abbrev pub KeepsPlaces : Net → Net → Type 0
KeepsPlaces net after =
    (a v w : ℕ → Bool) → AreGoodValues net a v → AreGoodValues after a w → map v net.observed ≡ map w after.observed

-- a pin whose fault is undetected may read the constant
abbrev pub FixesKeep : Type 0
FixesKeep =
    (net : Net) (fault : Fault) (driver : ℕ) → HasConstants net → Reads net fault.gate.0 fault.position driver → IsUndetected net fault → KeepsValues net (fixed net fault)

-- and the net stays acyclic
abbrev pub FixesKeepAcyclic : Type 0
FixesKeepAcyclic =
    (net : Net) (fault : Fault) (driver : ℕ) → HasConstants net → Reads net fault.gate.0 fault.position driver → IsAcyclic net → IsAcyclic (fixed net fault)

-- a new pin that is undetected at the noncontrolling value changes nothing
abbrev pub AddsKeep : Type 0
AddsKeep =
    (net : Net) (gate driver : ℕ) (kind : Kind) (c : Bool) → IsKind net gate kind → controlling kind ≡ Some c → IsUndetected (with_pin net gate driver) (last_pin net gate (not c)) → KeepsValues net (with_pin net gate driver)

-- a pin may be added where its driver isn't the gate and isn't reached from it
abbrev pub PinsKeepAcyclic : Type 0
PinsKeepAcyclic =
    (net : Net) (gate driver : ℕ) → IsAcyclic net → IsLive net gate → driver ≢ gate → (Reaches net gate driver → ⊥) → IsAcyclic (with_pin net gate driver)

-- readers may move between nodes that always have one value
abbrev pub MovesKeep : Type 0
MovesKeep =
    (net : Net) (from to : ℕ) → IsAcyclic (with_readers_moved net from to) → ((a v : ℕ → Bool) → AreGoodValues net a v → v from ≡ v to) → KeepsPlaces net (with_readers_moved net from to)

-- readers of a Not of a Not may read the driver of that
abbrev pub TwiceKeeps : Type 0
TwiceKeeps =
    (net : Net) (gate inner driver : ℕ) → IsKind net gate Not → IsKind net inner Not → drivers_of net gate ≡ inner ∷ [] → drivers_of net inner ≡ driver ∷ [] → IsAcyclic (with_readers_moved net gate driver) → KeepsPlaces net (with_readers_moved net gate driver)

-- and the net stays acyclic, where the new node isn't the old one and isn't reached from it
abbrev pub MovesKeepAcyclic : Type 0
MovesKeepAcyclic =
    (net : Net) (from to : ℕ) → IsAcyclic net → to ≢ from → (Reaches net from to → ⊥) → IsAcyclic (with_readers_moved net from to)
