-- Forward reading.
use Rattle.std.specs.List.{list_all}
use Rattle.std.specs.Option.{option_map_or}
use Rattle.std.specs.Prelude.{Bool, IsTrue, List, None, Option, Some, false, if◌then◌else◌, map, nat_eq, not, slice_get, ℕ, ◌||◌, ◌≡◌}
use Rattle.gate_net.specs.Net.{IsAcyclic, IsKind, IsObserved, Net, Node, drivers_of, node_at}
use Rattle.gate_net.specs.Values.{IsRun, faulty_reads, same_bool}
use Rattle.gate_net.specs.declared.Kind.TheVariants.{Source}
pub use Rattle.gate_net.specs.Meaning.{all_but, family_back, family_forward, is_known, junction_back, junction_follows, kind_forward, known_forward, parity_back, parity_follows, value_back, value_forward}
use Rattle.rm_base.specs.declared.numbers.Fault.{Fault}

-- what is known of each node's good value and faulty value, and which nodes are marked equal
pub record Marking : Type 0 where
  pub good : ℕ → Option Bool
  pub faulty : ℕ → Option Bool
  pub equal : ℕ → Bool

abbrev pub node_forward : Option Node → Option Bool → List (Option Bool) → Option Bool
node_forward None known os = None
node_forward (Some n) known os = kind_forward n.kind known os

-- the stuck pin's driver is known to have the value that the pin is stuck at
abbrev pub is_idle : Net → Fault → (ℕ → Option Bool) → Bool
is_idle net fault good = option_map_or (λ d. is_known fault.value (good d)) (slice_get (drivers_of net fault.gate.0) fault.position) false

abbrev pub both_known_same : Option Bool → Option Bool → Bool
both_known_same (Some b) (Some c) = same_bool b c
both_known_same _ _ = false

abbrev pub both_known_different : Option Bool → Option Bool → Bool
both_known_different (Some b) (Some c) = not (same_bool b c)
both_known_different _ _ = false

-- whether a node is marked equal
abbrev pub equal_forward : Net → Fault → Marking → ℕ → Bool
equal_forward net fault m x =
    both_known_same (m.good x) (m.faulty x)
    || (if nat_eq x fault.gate.0 then is_idle net fault m.good else list_all m.equal (drivers_of net x))

-- the marking that meets the local conditions at every node; `known` says what is known of each source
pub record IsForwardReading (net : Net) (fault : Fault) (known : ℕ → Option Bool) (m : Marking) : Type 0 where
  pub good : (x : ℕ) → m.good x ≡ node_forward (node_at net x) (known x) (map m.good (drivers_of net x))
  pub faulty : (x : ℕ) → m.faulty x ≡ node_forward (node_at net x) (known x) (faulty_reads net fault Some m.faulty x)
  pub equal : (x : ℕ) → m.equal x ≡ equal_forward net fault m x

-- some observed node is known to differ
abbrev pub MarksDetected : Net → Marking → Type 0
MarksDetected net m = (x : ℕ) × (IsObserved net x × IsTrue (both_known_different (m.good x) (m.faulty x)))

-- every observed node is marked equal
abbrev pub MarksQuiet : Net → Marking → Type 0
MarksQuiet net m = (x : ℕ) → IsObserved net x → IsTrue (m.equal x)

-- the assignment gives each source the value that is known of it
abbrev pub Completes : Net → (ℕ → Option Bool) → (ℕ → Bool) → Type 0
Completes net known a = (x : ℕ) (b : Bool) → IsKind net x Source → known x ≡ Some b → a x ≡ b

-- what the marking says of the node is true of the values
pub record IsTrueAt (m : Marking) (v f : ℕ → Bool) (x : ℕ) : Type 0 where
  pub good : (c : Bool) → m.good x ≡ Some c → v x ≡ c
  pub faulty : (c : Bool) → m.faulty x ≡ Some c → f x ≡ c
  pub equal : IsTrue (m.equal x) → v x ≡ f x

-- every known value and every equal mark holds for every completion
abbrev pub ReadingsHold : Type 0
ReadingsHold =
    (net : Net) (fault : Fault) → IsAcyclic net → (known : ℕ → Option Bool) (m : Marking) → IsForwardReading net fault known m → (a v f : ℕ → Bool) → Completes net known a → IsRun net fault a v f → (x : ℕ) → IsTrueAt m v f x

-- two markings agree on the node
pub record AgreeOn (m n : Marking) (x : ℕ) : Type 0 where
  pub good : m.good x ≡ n.good x
  pub faulty : m.faulty x ≡ n.faulty x
  pub equal : m.equal x ≡ n.equal x

-- there is only one marking
abbrev pub ReadingsAgree : Type 0
ReadingsAgree =
    (net : Net) (fault : Fault) → IsAcyclic net → (known : ℕ → Option Bool) (m n : Marking) → IsForwardReading net fault known m → IsForwardReading net fault known n → (x : ℕ) → AgreeOn m n x
