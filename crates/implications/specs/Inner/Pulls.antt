-- What follows at a gate that isn't known yet.
use Rattle.std.specs.List.{list_all}
use Rattle.std.specs.Prelude.{Bool, IsTrue, List, None, Option, Some, false, length, slice_get, true, ℕ, ◌<◌, ◌≡◌, ◌≢◌, ◌≤◌}
use Rattle.gate_net.specs.Forward.{all_but, is_known, junction_back, junction_follows}
use Rattle.gate_net.specs.Net.{Net, Reads}
use Rattle.implications.specs.Inner.Settled.{IsDone, IsFresh}
use Rattle.implications.specs.declared.found.Found.{Found}
use Rattle.implications.specs.declared.gate_lines.Pulled.{Pulled}
use Rattle.implications.specs.declared.gate_lines.Pulled.TheVariants.{Gate as GateNode, Pin as PinNode}
use Rattle.implications.specs.declared.pulls.Pull.{Pull}
use Rattle.implications.specs.declared.pulls.Pull.TheVariants.{Gate, Pin}
use Rattle.refutation.specs.declared.held.NodeFacts.{NodeFacts}
use Rattle.refutation.specs.declared.reasoning.Line.TheVariants.{Compare, DiffersBack, EqualForward, FaultyBack, FaultyForward, GoodBack, GoodForward, NotDiffers, NotEqual, Side, ToFaulty, ToGood}
use Rattle.rm_base.specs.declared.numbers.Fault.{Fault}
use Rattle.rm_base.specs.declared.numbers.NodeId.{NodeId}

-- of a junction with these pins and that known value: a value that follows and isn't known, or None where all are known
abbrev pub IsPull : Bool → List (Option Bool) → Option Bool → Option Pull → Type 0
IsPull c os known None =
    ((v : Bool) → junction_follows c os ≡ Some v → known ≡ Some v)
    × ((v other : Bool) (q : ℕ) (o : Option Bool) → known ≡ Some v → junction_back c v os q ≡ Some other → slice_get os q ≡ Some o → o ≡ Some other)
IsPull c os known (Some (Gate v)) = (junction_follows c os ≡ Some v) × (known ≢ Some v)
IsPull c os known (Some (Pin q v)) = (known ≡ Some v) × ((junction_back c v os q ≡ Some v) × (slice_get os q ≡ Some None))

-- of a gate whose drivers are known to be equal or to differ, as it is itself
abbrev pub IsEqualPull : List (Option Bool) → Option Bool → Option Pull → Type 0
IsEqualPull os known None =
    (IsTrue (list_all (is_known true) os) → known ≡ Some true)
    × ((q : ℕ) (o : Option Bool) → known ≡ Some false → IsTrue (all_but (is_known true) q os) → slice_get os q ≡ Some o → o ≡ Some false)
IsEqualPull os known (Some (Gate v)) = IsTrue (list_all (is_known true) os) × (known ≢ Some true)
IsEqualPull os known (Some (Pin q v)) = (known ≡ Some false) × (IsTrue (all_but (is_known true) q os) × (slice_get os q ≡ Some None))

-- the pull with the driver of the pin, in place of nothing for the gate
abbrev pub IsPlaced : Net → ℕ → Pull → Pulled → Type 0
IsPlaced net y (Gate v) (GateNode w) = w ≡ v
IsPlaced net y (Gate v) (PinNode q d w) = ⊥
IsPlaced net y (Pin p v) (GateNode w) = ⊥
IsPlaced net y (Pin p v) (PinNode q d w) = (q ≡ p) × ((w ≡ v) × Reads net y q d.0)

-- a pull in a gate, with the driver of a pin
abbrev pub IsPulled : Net → ℕ → (Option Pull → Type 0) → Option Pulled → Type 0
IsPulled net y P None = P None
IsPulled net y P (Some (GateNode v)) = P (Some (Gate v))
IsPulled net y P (Some (PinNode q d v)) = P (Some (Pin q v)) × Reads net y q d.0

-- lines of one kind at a node are done
abbrev pub AreDoneValues : Net → Fault → List NodeFacts → NodeId → Type 0
AreDoneValues net fault facts y = IsDone net fault facts (Compare y) × (IsDone net fault facts (ToFaulty y) × IsDone net fault facts (ToGood y))

abbrev pub AreDoneGood : Net → Fault → List NodeFacts → NodeId → Type 0
AreDoneGood net fault facts y = IsDone net fault facts (GoodForward y) × ((q : ℕ) → IsDone net fault facts (GoodBack y q))

abbrev pub AreDoneFaulty : Net → Fault → List NodeFacts → NodeId → Type 0
AreDoneFaulty net fault facts y = IsDone net fault facts (FaultyForward y) × ((q : ℕ) → IsDone net fault facts (FaultyBack y q))

abbrev pub AreDoneEqual : Net → Fault → List NodeFacts → NodeId → Type 0
AreDoneEqual net fault facts y = IsDone net fault facts (EqualForward y) × ((q : ℕ) → IsDone net fault facts (DiffersBack y q))

abbrev pub AreDoneSide : Net → Fault → List NodeFacts → NodeId → Type 0
AreDoneSide net fault facts y = (q : ℕ) → IsDone net fault facts (Side y q)

abbrev pub AreDoneParity : Net → Fault → List NodeFacts → NodeId → Type 0
AreDoneParity net fault facts y = IsDone net fault facts (NotDiffers y) × IsDone net fault facts (NotEqual y)

-- a fresh fact, or none, and then that holds
abbrev pub Finds : Net → Fault → List NodeFacts → Type 0 → Option Found → Type 0
Finds net fault facts P None = P
Finds net fault facts P (Some f) = IsFresh net fault facts f

-- a pull at a pin is at one of these drivers, of which there are few
abbrev pub SomePin : List ℕ → Pull → Type 0
SomePin ds (Gate v) = Unit {0}
SomePin ds (Pin q v) = (q < length ds) × (length ds ≤ 4294967295)
