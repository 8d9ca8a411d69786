-- Which rooms give which answers.
use Rattle.std.specs.Prelude.{◌≡◌, ◌<◌, ◌≤◌, true, Option, None}
use Rattle.gate_net.specs.Net.{Net, wire_count}
use Rattle.wire_edit.specs.declared.steps.Step.{Step}
use Rattle.wire_edit.specs.declared.refusal.EditRefusal.{EditRefusal}
use Rattle.wire_edit.specs.declared.room.Room.{Room}
use Rattle.wire_edit.specs.Steps.{Applies}
use Rattle.wire_edit.specs.Refusals.{IsAnswer, has_room, live_count, ceiling, nodes_made}
use Rattle.wire_edit.specs.Work.{pins_made}

-- there is room for a step of each kind
pub record IsUnspent (room : Room) : Type 0 where
  pub pins : 0 < room.pins
  pub nodes : 0 < room.nodes
  pub steps : 0 < room.steps

-- all such rooms give the same answers
abbrev pub RoomsAgree : Type 0
RoomsAgree =
    (net : Net) (room other : Room) (step : Step) (answer : Option EditRefusal) → IsUnspent room → IsUnspent other → IsAnswer net room step answer → IsAnswer net other step answer

-- there is one answer
abbrev pub AnswersAgree : Type 0
AnswersAgree =
    (net : Net) (room : Room) (step : Step) (one other : Option EditRefusal) → IsAnswer net room step one → IsAnswer net room step other → one ≡ other

-- a step that applies and has room isn't refused
abbrev pub ApplicableIsMade : Type 0
ApplicableIsMade =
    (net : Net) (room : Room) (step : Step) (answer : Option EditRefusal) → Applies net step → has_room net room step ≡ true → IsAnswer net room step answer → answer ≡ None

-- room for a step, in a net below the ceiling
abbrev pub RoomIsThere : Type 0
RoomIsThere =
    (net : Net) (room : Room) (step : Step) → 0 < room.steps → pins_made step ≤ room.pins → nodes_made step ≤ room.nodes → wire_count net < ceiling → live_count net < ceiling → has_room net room step ≡ true
