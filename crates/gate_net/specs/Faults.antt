-- The gates of a net in order, its pin faults in order, and assignments by vectors.
use Rattle.std.specs.Prelude.{◌≡◌, ℕ, zero, suc, ◌+◌, ◌-◌, Bool, true, false, List, [], ◌∷◌, ◌++◌, length, Option, Some, None, slice_get, slice_index_or, if◌then◌else◌}
use Rattle.rm_base.specs.declared.numbers.Fault.{Fault}
pub use Rattle.gate_net.specs.Meaning.{is_gate_kind}
use Rattle.gate_net.specs.Net.{Node, Net, drivers_in, source_count}
use Rattle.gate_net.specs.Values.{Detects}
use Rattle.rm_base.specs.Numbers.{first_source}

abbrev pub before_gates : Option Node → ℕ → List ℕ → List ℕ
before_gates None x xs = xs
before_gates (Some n) x xs = if is_gate_kind n.kind then x ∷ xs else xs

-- the numbers of the gates among nodes from this number on
abbrev pub gates_from : ℕ → List (Option Node) → List ℕ
gates_from x [] = []
gates_from x (o ∷ os) = before_gates o x (gates_from (x + 1) os)

-- the numbers of the gates, ascending
abbrev pub gates_of : Net → List ℕ
gates_of net = gates_from 0 net.nodes

abbrev pub fault_at : ℕ → ℕ → Bool → Fault
fault_at gate position value = record { gate = record { 0 = gate }; position = position; value = value }

-- source k is node first_source + k
abbrev pub assigned : List Bool → ℕ → Bool
assigned vector x = slice_index_or vector (x - first_source) false

-- the assignment gives the sources the values of the vector
abbrev pub Gives : (ℕ → Bool) → List Bool → Type 0
Gives a vector = (k : ℕ) (b : Bool) → slice_get vector k ≡ Some b → a (first_source + k) ≡ b

-- the faults of so many pins of a gate from one position on, value 0 before 1
abbrev pub pin_faults : ℕ → ℕ → ℕ → List Fault
pin_faults gate position zero = []
pin_faults gate position (suc count) = fault_at gate position false ∷ fault_at gate position true ∷ pin_faults gate (suc position) count

-- those of nodes from one number on
abbrev pub faults_from : ℕ → List (Option Node) → List Fault
faults_from gate [] = []
faults_from gate (o ∷ os) = pin_faults gate 0 (length (drivers_in o)) ++ faults_from (suc gate) os

-- each fault of the net, by gate, position and value
abbrev pub faults_of : Net → List Fault
faults_of net = faults_from 0 net.nodes

-- the vector has a value for each source, and some observed node differs under them: it detects the fault
pub record IsTest (net : Net) (fault : Fault) (vector : List Bool) : Type 0 where
  pub size : length vector ≡ source_count net
  pub detects : Detects net fault (assigned vector)
