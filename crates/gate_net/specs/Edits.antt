-- Changes of a net.
use Rattle.std.specs.Prelude.{◌≡◌, ◌≢◌, ℕ, zero, suc, ◌<◌, List, [], ◌∷◌, ◌++◌, map, Option, Some, None, Bool, nat_eq, length, slice_get, slice_set, if◌then◌else◌}
use Rattle.rm_base.specs.declared.numbers.Fault.{Fault}
use Rattle.gate_net.specs.declared.Kind.{Kind}
use Rattle.gate_net.specs.declared.Kind.TheVariants.{Not}
use Rattle.gate_net.specs.Net.{Node, Net, node_at, drivers_of, Reads, IsObserved}
use Rattle.rm_base.specs.Numbers.{one_number, zero_number}

abbrev pub redriven : List ℕ → Option Node → Option Node
redriven drivers None = None
redriven drivers (Some n) = Some (record n { drivers = drivers })

-- the gate has these drivers instead
abbrev pub with_drivers : Net → ℕ → List ℕ → Net
with_drivers net gate drivers =
    record net { nodes = slice_set net.nodes gate (redriven drivers (node_at net gate)) }

abbrev pub constant_node : Bool → ℕ
constant_node b = if b then one_number else zero_number

-- the stuck pin reads a constant
abbrev pub fixed : Net → Fault → Net
fixed net fault = with_drivers net fault.gate.0 (slice_set (drivers_of net fault.gate.0) fault.position (constant_node fault.value))

-- the gate has one more pin
abbrev pub with_pin : Net → ℕ → ℕ → Net
with_pin net gate driver = with_drivers net gate (drivers_of net gate ++ driver ∷ [])

-- the fault of the pin after the gate's pins
abbrev pub last_pin : Net → ℕ → Bool → Fault
last_pin net gate value = record { gate = record { 0 = gate }; position = length (drivers_of net gate); value = value }

-- the list without the element at that place
abbrev pub without : List ℕ → ℕ → List ℕ
without [] p = []
without (x ∷ xs) zero = xs
without (x ∷ xs) (suc p) = x ∷ without xs p

-- the pin goes, and later pins have one position less
abbrev pub without_pin : Net → ℕ → ℕ → Net
without_pin net gate position = with_drivers net gate (without (drivers_of net gate) position)

-- the number has this node instead
abbrev pub with_node : Net → ℕ → Node → Net
with_node net gate node = record net { nodes = slice_set net.nodes gate (Some node) }

-- the pin goes, later pins have one position less, and the gate becomes a Not
abbrev pub turned_to_not : Net → ℕ → ℕ → Net
turned_to_not net gate position = with_node net gate (record { kind = Not; drivers = without (drivers_of net gate) position })

-- x, or the new node in place of the old
abbrev pub redirected : ℕ → ℕ → ℕ → ℕ
redirected from to x = if nat_eq x from then to else x

abbrev pub node_redirected : ℕ → ℕ → Option Node → Option Node
node_redirected from to None = None
node_redirected from to (Some n) = Some (record n { drivers = map (redirected from to) n.drivers })

-- every pin and every observed place that has the one node has the other instead
abbrev pub with_readers_moved : Net → ℕ → ℕ → Net
with_readers_moved net from to =
    record { nodes = map (node_redirected from to) net.nodes; observed = map (redirected from to) net.observed }

-- no live node has the number, and all lower ones have
pub record IsLeastFree (net : Net) (x : ℕ) : Type 0 where
  pub free : node_at net x ≡ None
  pub least : (m : ℕ) → m < x → node_at net m ≢ None

-- a node that no pin reads and that isn't observed
pub record IsUnread (net : Net) (gate : ℕ) : Type 0 where
  pub unread : (y position : ℕ) → Reads net y position gate → ⊥
  pub unobserved : IsObserved net gate → ⊥

-- the one node that differs between the nets
pub record DiffersAt (net after : Net) (gate : ℕ) : Type 0 where
  pub others : (y : ℕ) → y ≢ gate → node_at after y ≡ node_at net y
  pub observed : after.observed ≡ net.observed

-- the nets have the same nodes but for these numbers
abbrev pub IsSameBut : Net → Net → List ℕ → Type 0
IsSameBut before net changed = (x : ℕ) → ((k : ℕ) → slice_get changed k ≡ Some x → ⊥) → node_at net x ≡ node_at before x

-- a gate of that kind and with these drivers takes the least free number
pub record MakesGate (net after : Net) (kind : Kind) (drivers : List ℕ) (node : ℕ) : Type 0 where
  pub number : IsLeastFree net node
  pub differs : DiffersAt net after node
  pub made : node_at after node ≡ Some (record { kind = kind; drivers = drivers })
