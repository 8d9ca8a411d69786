-- A net of gates: live nodes by number, each with its kind and its drivers, and the observed nodes.
use Rattle.std.specs.Prelude.{◌≡◌, ◌≢◌, ℕ, ◌+◌, ◌<◌, ◌≤◌, List, [], ◌∷◌, Option, Some, None, slice_get, length, sum_by, if◌then◌else◌}
use Rattle.gate_net.specs.declared.Kind.{Kind}
use Rattle.gate_net.specs.declared.Kind.TheVariants.{Source, Zero, One, Not, Xor}
use Rattle.rm_base.specs.Numbers.{first_source, one_number, zero_number}
pub use Rattle.gate_net.specs.Meaning.{IsGateKind, is_gate_kind}

pub record Node : Type 0 where
  pub kind : Kind
  pub drivers : List ℕ

-- the live nodes by number, and the observed nodes in order
pub record Net : Type 0 where
  pub nodes : List (Option Node)
  pub observed : List ℕ

abbrev pub flatten_option : Option (Option Node) → Option Node
flatten_option None = None
flatten_option (Some o) = o

-- the live node of that number
abbrev pub node_at : Net → ℕ → Option Node
node_at net x = flatten_option (slice_get net.nodes x)

abbrev pub kind_in : Option Node → Option Kind
kind_in None = None
kind_in (Some n) = Some n.kind

-- the kind of the live node of that number
abbrev pub kind_of : Net → ℕ → Option Kind
kind_of net x = kind_in (node_at net x)

abbrev pub drivers_in : Option Node → List ℕ
drivers_in None = []
drivers_in (Some n) = n.drivers

-- the drivers of a node's pins, in order
abbrev pub drivers_of : Net → ℕ → List ℕ
drivers_of net x = drivers_in (node_at net x)

-- node y reads node x at that position
abbrev pub Reads : Net → ℕ → ℕ → ℕ → Type 0
Reads net y position x = slice_get (drivers_of net y) position ≡ Some x

abbrev pub IsObserved : Net → ℕ → Type 0
IsObserved net x = (k : ℕ) × (slice_get net.observed k ≡ Some x)

-- the node is live and of that kind
abbrev pub IsKind : Net → ℕ → Kind → Type 0
IsKind net x kind = (drivers : List ℕ) × (node_at net x ≡ Some (record { kind = kind; drivers = drivers }))

abbrev pub IsLive : Net → ℕ → Type 0
IsLive net x = (kind : Kind) × IsKind net x kind

abbrev pub IsGate : Net → ℕ → Type 0
IsGate net x = (kind : Kind) × (IsKind net x kind × IsGateKind kind)

-- each driver has a smaller rank than its readers
abbrev pub IsRanked : Net → (ℕ → ℕ) → Type 0
IsRanked net rank = (y position x : ℕ) → Reads net y position x → rank x < rank y

abbrev pub IsAcyclic : Net → Type 0
IsAcyclic net = (rank : ℕ → ℕ) × IsRanked net rank

-- a node without pins
abbrev pub plain_node : Kind → Option Node
plain_node kind = Some (record { kind = kind; drivers = [] })

-- nodes 0 and 1 are the constants
pub record HasConstants (net : Net) : Type 0 where
  pub zero_is : node_at net zero_number ≡ plain_node Zero
  pub one_is : node_at net one_number ≡ plain_node One

abbrev pub count_in : Option Node → (Kind → ℕ) → ℕ
count_in None count = 0
count_in (Some n) count = count n.kind

abbrev pub source_in : Kind → ℕ
source_in Source = 1
source_in _ = 0

abbrev pub gate_in : Kind → ℕ
gate_in kind = if is_gate_kind kind then 1 else 0

-- how many sources the net has
abbrev pub source_count : Net → ℕ
source_count net = sum_by (λ (o : Option Node). count_in o source_in) net.nodes

-- how many gates
abbrev pub gate_count : Net → ℕ
gate_count net = sum_by (λ (o : Option Node). count_in o gate_in) net.nodes

-- how many pins of gates
abbrev pub wire_count : Net → ℕ
wire_count net = sum_by (λ (o : Option Node). length (drivers_in o)) net.nodes

-- the sources come first after the constants, and they have no pins
pub record HasSources (net : Net) : Type 0 where
  pub first : (k : ℕ) → k < source_count net → node_at net (first_source + k) ≡ plain_node Source
  pub only : (x : ℕ) → IsKind net x Source → (first_source ≤ x) × (x < first_source + source_count net)

abbrev pub before_dead : Option Node → List (Option Node) → List (Option Node)
before_dead None [] = []
before_dead None (y ∷ ys) = None ∷ y ∷ ys
before_dead (Some x) ys = Some x ∷ ys

-- without the dead numbers at the end
abbrev pub trimmed : List (Option Node) → List (Option Node)
trimmed [] = []
trimmed (x ∷ xs) = before_dead x (trimmed xs)

-- what holds of the net of every graph
pub record IsWellFormed (net : Net) : Type 0 where
  pub acyclic : IsAcyclic net
  pub constants : HasConstants net
  pub only_zero : (x : ℕ) → IsKind net x Zero → x ≡ zero_number
  pub only_one : (x : ℕ) → IsKind net x One → x ≡ one_number
  pub sources : HasSources net
  pub nots_have_one : (y : ℕ) → IsKind net y Not → (d : ℕ) × (drivers_of net y ≡ d ∷ [])
  pub xors_have_two : (y : ℕ) → IsKind net y Xor → (d e : ℕ) × (drivers_of net y ≡ d ∷ e ∷ [])
  pub drivers_live : (y position x : ℕ) → Reads net y position x → node_at net x ≢ None
  pub observed_live : (x : ℕ) → IsObserved net x → node_at net x ≢ None
  pub canonical : trimmed net.nodes ≡ net.nodes
