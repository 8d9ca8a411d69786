-- Vectors that are kept for a net.
use Rattle.std.specs.Prelude.{◌≡◌, ◌<◌, ◌⊎◌, ℕ, Bool, IfSome, true, false, not, IsTrue, List, Option, Some, bit_xor, slice_get, if◌then◌else◌}
use Rattle.gate_net.specs.Net.{Net}
use Rattle.gate_net.specs.Values.{Detects, HasPin}
use Rattle.fault_sim.specs.BlockStates.{AreSimulated}
use Rattle.fault_sim.specs.LaneStates.{Fits, IsSimulated}
use Rattle.fault_sim.specs.Observing.{AreObservabilities}
use Rattle.fault_sim.specs.Words.{assignment, lane, all_ones}
use Rattle.wire_edit.specs.Tests.{control_of}
use Rattle.rm_base.specs.declared.numbers.NodeId.{NodeId}
use Rattle.rar_loop.specs.Rows.{stuck}
use Rattle.rar_loop.specs.declared.vectors.Vectors.{Vectors}
use Rattle.rm_base.specs.Numbers.{numbers_of}
use Rattle.rm_base.specs.declared.numbers.Fault.{Fault}
use Rattle.podem.specs.Searchers.{Serves}
use Rattle.refutation.specs.Branches.{AreAccepted}
use Rattle.rar_loop.specs.declared.seeking.Seeker.{Seeker}
use Rattle.rar_loop.specs.declared.seeking.Sought.{Sought}
use Rattle.rar_loop.specs.declared.seeking.Sought.TheVariants.{Detected, Open, Refuted}

-- the lanes in which a word has the value
abbrev pub lanes_with : Bool → ℕ → ℕ
lanes_with true word = word
lanes_with false word = bit_xor word all_ones

-- the value of a node with which a wire from it, or from a fresh Not of it, has the controlling value
abbrev pub wanted : Bool → Bool → Bool
wanted fresh control = if fresh then not control else control

-- the gate has a first pin, which the assignment detects at the controlling value
pub record IsTurned (net : Net) (gate : ℕ) (a : ℕ → Bool) : Type 0 where
  pub control : Bool
  pub controls : control_of net gate ≡ Some control
  pub pin : HasPin net (stuck gate 0 control)
  pub detected : Detects net (stuck gate 0 control) a

-- what is kept is the gate's word, or was kept before
abbrev pub HasKept : List (Option ℕ) → List (Option ℕ) → ℕ → ℕ → Type 0
HasKept old new gate word =
    (g : ℕ) (w : ℕ) → slice_get new g ≡ Some (Some w) → ((g ≡ gate) × (word ≡ w)) ⊎ (slice_get old g ≡ Some (Some w))

-- a gate of which a word is kept is listed
abbrev pub AreAsked : List (Option ℕ) → List NodeId → Type 0
AreAsked turned asked = (gate word : ℕ) → slice_get turned gate ≡ Some (Some word) → (k : ℕ) × (slice_get (numbers_of asked) k ≡ Some gate)

-- the simulator and the search are for the net
pub record Seeks (net : Net) (s : Seeker) : Type 0 where
  pub fits : Fits s.lanes net
  pub serves : Serves s.searcher net

-- a vector detects the fault, or the tree refutes it, or nothing is known
abbrev pub IsSought : Net → Fault → Sought → Type 0
IsSought net fault Detected = (a : ℕ → Bool) × Detects net fault a
IsSought net fault (Refuted tree) = AreAccepted net fault tree
IsSought net fault Open = Unit {0}

-- they are simulated for the net, and in the lanes that are kept of a gate it is turned
pub record AreFor (v : Vectors) (net : Net) : Type 0 where
  pub fits : Fits v.lanes net
  pub simulated : IsSimulated v.lanes net
  pub noted : AreObservabilities v.notes net v.lanes.words
  pub turned : (gate word : ℕ) → slice_get v.turned.items gate ≡ Some (Some word) → (i : ℕ) → i < 64 → IsTrue (lane i word) → IsTurned net gate (assignment v.lanes.words i)
  pub listed : AreAsked v.turned.items v.asked.items
  pub found : AreSimulated v.found net
  pub seeks : IfSome v.seeker (Seeks net)
