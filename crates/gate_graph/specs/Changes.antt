-- What each edit needs and does.
use Rattle.std.specs.Prelude.{◌≡◌, ◌≢◌, ℕ, ◌+◌, ◌<◌, Bool, None, [], ◌∷◌, length, slice_set}
use Rattle.gate_net.specs.Net.{node_at, drivers_of}
use Rattle.gate_net.specs.Paths.{Reaches}
use Rattle.gate_net.specs.Net.{IsLive, IsGate, IsKind}
use Rattle.gate_net.specs.Edits.{with_drivers, with_pin}
use Rattle.gate_net.specs.Edits.{with_readers_moved}
use Rattle.gate_net.specs.Values.{IsJunction}
use Rattle.gate_net.specs.Edits.{without_pin, turned_to_not, IsUnread, DiffersAt}
use Rattle.gate_net.specs.Edits.{MakesGate}
use Rattle.gate_graph.specs.Circuit.{Circuit, net_of, free_pins, free_nodes, Uses, Frees}
use Rattle.gate_graph.specs.Readers.{LastReader, ReaderGoes, ReaderMoves, ReadersMove, GateGoes}
use Rattle.gate_net.specs.declared.Kind.TheVariants.{Not, Xor}
use Rattle.gate_graph.specs.declared.editing.Edit.{Edit}
use Rattle.gate_graph.specs.declared.editing.Edit.TheVariants.{Append, Remove, Redrive, Readers, NewNot, Retire, ToNot}

abbrev pub CanEdit : Circuit → Edit → Type 0
CanEdit v (Append gate driver) =
    ((c : Bool) × IsJunction (net_of v) gate.0 c) × (IsLive (net_of v) driver.0 × ((driver.0 ≢ gate.0) × ((Reaches (net_of v) gate.0 driver.0 → ⊥) × (0 < free_pins v))))
CanEdit v (Remove gate position) = ((c : Bool) × IsJunction (net_of v) gate.0 c) × (position < length (drivers_of (net_of v) gate.0))
CanEdit v (Redrive gate position driver) =
    (position < length (drivers_of (net_of v) gate.0)) × (IsLive (net_of v) driver.0 × ((driver.0 ≢ gate.0) × (Reaches (net_of v) gate.0 driver.0 → ⊥)))
CanEdit v (Readers from to) = IsGate (net_of v) from.0 × (IsLive (net_of v) to.0 × ((to.0 ≢ from.0) × (Reaches (net_of v) from.0 to.0 → ⊥)))
CanEdit v (NewNot driver) = IsLive (net_of v) driver.0 × ((0 < free_pins v) × (0 < free_nodes v))
CanEdit v (Retire gate) = IsGate (net_of v) gate.0 × IsUnread (net_of v) gate.0
CanEdit v (ToNot gate position) = IsKind (net_of v) gate.0 Xor × (position < length (drivers_of (net_of v) gate.0))

-- how many entries the edit takes
abbrev pub entries_for : Circuit → Edit → ℕ
entries_for v (Retire gate) = 1 + length (drivers_of (net_of v) gate.0)
entries_for v _ = 1

-- the edit is made, and nothing else
abbrev pub Edits : Circuit → Edit → Circuit → Type 0
Edits v (Append gate driver) w = (net_of w ≡ with_pin (net_of v) gate.0 driver.0) × (LastReader v w gate.0 driver.0 × Uses v w 1 0)
Edits v (Remove gate position) w = (net_of w ≡ without_pin (net_of v) gate.0 position) × (ReaderGoes v w gate.0 position × Uses v w 0 0)
Edits v (Redrive gate position driver) w =
    (net_of w ≡ with_drivers (net_of v) gate.0 (slice_set (drivers_of (net_of v) gate.0) position driver.0)) × (ReaderMoves v w gate.0 position driver.0 × Uses v w 0 0)
Edits v (Readers from to) w = (net_of w ≡ with_readers_moved (net_of v) from.0 to.0) × (ReadersMove v w from.0 to.0 × Uses v w 0 0)
Edits v (NewNot driver) w = ((node : ℕ) × (MakesGate (net_of v) (net_of w) Not (driver.0 ∷ []) node × LastReader v w node driver.0)) × Uses v w 1 1
Edits v (Retire gate) w = (DiffersAt (net_of v) (net_of w) gate.0 × (node_at (net_of w) gate.0 ≡ None)) × (GateGoes v w gate.0 × Frees v w)
Edits v (ToNot gate position) w = (net_of w ≡ turned_to_not (net_of v) gate.0 position) × (ReaderGoes v w gate.0 position × Uses v w 0 0)
