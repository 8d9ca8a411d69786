-- The nodes that steps change.
use Rattle.std.specs.Prelude.{◌≡◌, ◌≢◌, ◌<◌, ℕ, List, Option, None, Some, slice_get, if◌then◌else◌}
use Rattle.rm_base.specs.declared.numbers.NodeId.{NodeId}
use Rattle.gate_net.specs.Net.{IsWellFormed, Net, Reads, node_at}
use Rattle.gate_graph.specs.Changes.{Edits}
use Rattle.gate_graph.specs.Circuit.{Circuit, net_of}
use Rattle.wire_edit.specs.Edited.{edit_of, IsNewNot}
use Rattle.wire_edit.specs.Steps.{Applies, change_of}
use Rattle.wire_edit.specs.Tests.{driver_at, is_xor, other_position}
use Rattle.wire_edit.specs.declared.steps.Step.{Step}
use Rattle.changed_nodes.specs.declared.changes.Changed.{Changed}
use Rattle.rm_base.specs.Numbers.{numbers_of}

-- the driver of an Xor's other pin
abbrev pub passed_driver : Net → ℕ → ℕ → Option ℕ
passed_driver net gate position = if is_xor net gate then driver_at net gate (other_position position) else None

abbrev pub IsUnlisted : List ℕ → ℕ → Type 0
IsUnlisted xs x = (k : ℕ) → slice_get xs k ≡ Some x → ⊥

-- what was listed still is, and so is the number
abbrev pub HasListed : List NodeId → List NodeId → ℕ → Type 0
HasListed old new x = (y : ℕ) → IsUnlisted (numbers_of new) y → IsUnlisted (numbers_of old) y × (y ≢ x)

-- the node reads no constant and none of these
abbrev pub ReadsNone : Net → List ℕ → ℕ → Type 0
ReadsNone net new_drivers x = (position driver : ℕ) → Reads net x position driver → (1 < driver) × IsUnlisted new_drivers driver

-- a node that isn't listed, and reads no constant and none of the nodes to which readers moved, is as it was
abbrev pub IsNoted : Net → Net → List ℕ → List ℕ → Type 0
IsNoted before net gates new_drivers = (x : ℕ) → IsUnlisted gates x → ReadsNone net new_drivers x → node_at net x ≡ node_at before x

abbrev pub AreNoted : Net → Net → Changed → Type 0
AreNoted before net changed = IsNoted before net (numbers_of changed.gates.items) (numbers_of changed.new_drivers.items)

-- a node that isn't among these is no noted gate, and reads none of the nodes to which readers moved
abbrev pub ListsNoted : Net → Changed → List NodeId → Type 0
ListsNoted net changed nodes =
    (y : ℕ) → IsUnlisted (numbers_of nodes) y
    → IsUnlisted (numbers_of changed.gates.items) y × ((position driver : ℕ) → Reads net y position driver → IsUnlisted (numbers_of changed.new_drivers.items) driver)

-- what was noted of changes is noted now
abbrev pub NotesOn : Net → Net → Changed → Changed → Type 0
NotesOn net after old new = (before : Net) → AreNoted before net old → AreNoted before after new

-- a step was noted that led to this graph, and made no node
abbrev pub HasNoted : Step → Circuit → Changed → Changed → Type 0
HasNoted step w old new =
    (v : Circuit) → IsWellFormed (net_of v) → Applies (net_of v) step → (IsNewNot (change_of (net_of v) step) → ⊥) → Edits v (edit_of (change_of (net_of v) step)) w → NotesOn (net_of v) (net_of w) old new
