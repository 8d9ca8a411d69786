-- Why a step isn't made: the first reason in the numbered order.
use Rattle.std.specs.Prelude.{◌≡◌, ℕ, ◌-◌, Bool, true, false, not, ◌&&◌, ◌⊎◌, ◌↔◌, Option, Some, None, List, [], ◌∷◌, length, nat_lt, sum_by}
use Rattle.rm_base.specs.declared.numbers.NodeId.{NodeId}
use Rattle.gate_net.specs.Net.{Net, drivers_of, wire_count}
use Rattle.gate_net.specs.Paths.{Reaches}
use Rattle.wire_edit.specs.declared.steps.Step.{Step}
use Rattle.wire_edit.specs.declared.steps.Step.TheVariants.{Add, Fix, NewNot, Const, Same, NoPins, OnePin, Twice, Twin, Dead}
use Rattle.wire_edit.specs.declared.steps.Rule.{Rule}
use Rattle.wire_edit.specs.declared.steps.Rule.TheVariants as rule
use Rattle.wire_edit.specs.declared.refusal.EditRefusal.{EditRefusal}
use Rattle.wire_edit.specs.declared.refusal.EditRefusal.TheVariants.{NoNode, WrongKind, NoPin, Cycle, AlreadyPin, RuleNotMet, Full}
use Rattle.wire_edit.specs.declared.room.Room.{Room}
use Rattle.wire_edit.specs.Tests.{is_live, is_junction, is_gate, is_among, live_in}
use Rattle.wire_edit.specs.Steps.{rule_applies}

abbrev pub or_else : {A : Type 0} → Option A → Option A → Option A
or_else None other = other
or_else (Some x) other = Some x

abbrev pub first_of : {A : Type 0} → List (Option A) → Option A
first_of [] = None
first_of (o ∷ os) = or_else o (first_of os)

abbrev pub unless : Bool → EditRefusal → Option EditRefusal
unless true refusal = None
unless false refusal = Some refusal

abbrev pub live : Net → NodeId → Option EditRefusal
live net node = unless (is_live net node.0) (NoNode node)

abbrev pub gate_kind : Net → NodeId → Option EditRefusal
gate_kind net gate = unless (is_gate net gate.0) (WrongKind gate)

abbrev pub pin : Net → NodeId → ℕ → Option EditRefusal
pin net gate position = unless (nat_lt position (length (drivers_of net gate.0))) (NoPin gate position)

abbrev pub met : Net → Step → Rule → NodeId → Option EditRefusal
met net step rule gate = unless (rule_applies net step) (RuleNotMet rule gate)

-- the first reason that lies in the net, where the last argument tells whether a new pin would close a cycle
abbrev pub fault_of : Net → Step → Bool → Option EditRefusal
fault_of net (Add gate node) cyclic =
    first_of (live net gate ∷ live net node ∷ unless (is_junction net gate.0) (WrongKind gate) ∷ unless (not cyclic) (Cycle gate node)
    ∷ unless (not (is_among node.0 (drivers_of net gate.0))) (AlreadyPin gate node) ∷ [])
fault_of net (Fix gate position value) cyclic = first_of (live net gate ∷ gate_kind net gate ∷ pin net gate position ∷ [])
fault_of net (NewNot node) cyclic = live net node
fault_of net (Const gate position) cyclic =
    first_of (live net gate ∷ gate_kind net gate ∷ pin net gate position ∷ met net (Const gate position) rule.Const gate ∷ [])
fault_of net (Same gate position) cyclic =
    first_of (live net gate ∷ gate_kind net gate ∷ pin net gate position ∷ met net (Same gate position) rule.Same gate ∷ [])
fault_of net (NoPins gate) cyclic = first_of (live net gate ∷ gate_kind net gate ∷ met net (NoPins gate) rule.NoPins gate ∷ [])
fault_of net (OnePin gate) cyclic = first_of (live net gate ∷ gate_kind net gate ∷ met net (OnePin gate) rule.OnePin gate ∷ [])
fault_of net (Twice gate) cyclic = first_of (live net gate ∷ gate_kind net gate ∷ met net (Twice gate) rule.Twice gate ∷ [])
fault_of net (Twin gate other) cyclic =
    first_of (live net gate ∷ live net other ∷ gate_kind net gate ∷ met net (Twin gate other) rule.Twin gate ∷ [])
fault_of net (Dead gate) cyclic = first_of (live net gate ∷ gate_kind net gate ∷ met net (Dead gate) rule.Dead gate ∷ [])

-- how many nodes live
abbrev pub live_count : Net → ℕ
live_count net = sum_by live_in net.nodes

-- how many wires, or live nodes, a net may have
abbrev pub ceiling : ℕ
ceiling = 1073741824

-- what the step takes isn't spent, and the net is below the ceiling
abbrev pub has_room : Net → Room → Step → Bool
has_room net room (Add gate node) = nat_lt 0 room.steps && (nat_lt 0 room.pins && nat_lt (wire_count net) ceiling)
has_room net room (NewNot node) =
    nat_lt 0 room.steps && (nat_lt 0 room.pins && (nat_lt 0 room.nodes && nat_lt (live_count net) ceiling))
has_room net room _ = nat_lt 0 room.steps

-- the answer to a step; none where it is made
abbrev pub refusal_of : Net → Room → Step → Bool → Option EditRefusal
refusal_of net room step cyclic = or_else (fault_of net step cyclic) (unless (has_room net room step) Full)

-- the step makes a pin that closes a cycle
abbrev pub ClosesCycle : Net → Step → Type 0
ClosesCycle net (Add gate node) = (node.0 ≡ gate.0) ⊎ Reaches net gate.0 node.0
ClosesCycle net _ = ⊥

-- the first reason of all
pub record IsAnswer (net : Net) (room : Room) (step : Step) (answer : Option EditRefusal) : Type 0 where
  pub cyclic : Bool
  pub tells : (cyclic ≡ true) ↔ ClosesCycle net step
  pub is : answer ≡ refusal_of net room step cyclic

-- the room that a step leaves
abbrev pub room_after : Room → Step → Room
room_after room (Add gate node) = record room { steps = room.steps - 1; pins = room.pins - 1 }
room_after room (NewNot node) = record { steps = room.steps - 1; pins = room.pins - 1; nodes = room.nodes - 1 }
room_after room _ = record room { steps = room.steps - 1 }

-- how many nodes a step makes
abbrev pub nodes_made : Step → ℕ
nodes_made (NewNot node) = 1
nodes_made _ = 0
