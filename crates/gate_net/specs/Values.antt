-- The good and the faulty values of a net, and which assignments detect a fault.
use Rattle.std.specs.Prelude.{◌≡◌, ◌≢◌, ℕ, List, map, Option, Some, None, Bool, false, nat_eq, slice_set, if◌then◌else◌}
use Rattle.rm_base.specs.declared.numbers.Fault.{Fault}
use Rattle.gate_net.specs.declared.Kind.{Kind}
pub use Rattle.gate_net.specs.Meaning.{controlling, family, family_value, gate_value, inversion, junction, parity, same_bool, turned}
use Rattle.gate_net.specs.Net.{Node, Net, node_at, drivers_of, Reads, IsObserved, IsKind}

-- an And or an Or, with its controlling value
abbrev pub IsJunction : Net → ℕ → Bool → Type 0
IsJunction net gate c = (kind : Kind) × (IsKind net gate kind × (controlling kind ≡ Some c))

-- a number without a live node has 0
abbrev pub node_value : Option Node → Bool → List Bool → Bool
node_value None assigned reads = false
node_value (Some n) assigned reads = gate_value n.kind assigned reads

-- each value is that of the node's function of what it reads; a gives the sources by node number
abbrev pub AreGoodValues : Net → (ℕ → Bool) → (ℕ → Bool) → Type 0
AreGoodValues net a v = (x : ℕ) → v x ≡ node_value (node_at net x) (a x) (map v (drivers_of net x))

-- what a node reads where one pin is stuck
abbrev pub faulty_reads : {A : Type 0} → Net → Fault → (Bool → A) → (ℕ → A) → ℕ → List A
faulty_reads net fault constant f x =
    if nat_eq x fault.gate.0 then slice_set (map f (drivers_of net x)) fault.position (constant fault.value) else map f (drivers_of net x)

abbrev pub AreFaultyValues : Net → Fault → (ℕ → Bool) → (ℕ → Bool) → Type 0
AreFaultyValues net fault a f = (x : ℕ) → f x ≡ node_value (node_at net x) (a x) (faulty_reads net fault (λ b. b) f x)

-- the stuck pin exists
abbrev pub HasPin : Net → Fault → Type 0
HasPin net fault = (driver : ℕ) × Reads net fault.gate.0 fault.position driver

-- the good and the faulty values under one assignment
pub record IsRun (net : Net) (fault : Fault) (a v f : ℕ → Bool) : Type 0 where
  pub good : AreGoodValues net a v
  pub faulty : AreFaultyValues net fault a f

-- no observed node differs
abbrev pub SameObserved : Net → (ℕ → Bool) → (ℕ → Bool) → Type 0
SameObserved net v f = (x : ℕ) → IsObserved net x → v x ≡ f x

-- some observed node differs under the assignment
abbrev pub Detects : Net → Fault → (ℕ → Bool) → Type 0
Detects net fault a =
    (v : ℕ → Bool) × ((f : ℕ → Bool) × (IsRun net fault a v f × ((x : ℕ) × (IsObserved net x × (v x ≢ f x)))))

-- no assignment detects the fault
abbrev pub IsUndetected : Net → Fault → Type 0
IsUndetected net fault = (a : ℕ → Bool) → Detects net fault a → ⊥
