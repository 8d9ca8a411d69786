-- What a contract sees of a trial.
use Rattle.std.specs.Prelude.{◌≡◌, ◌≢◌, ℕ, List, [], ◌∷◌, ◌++◌, Option, Some, None, Result, Ok, Err}
use Rattle.gate_graph.specs.Circuit.{Circuit, wiring, net_of, fanouts_of}
use Rattle.gate_graph.specs.Wirings.{Wiring}
use Rattle.gate_graph.specs.Undoing.{back_to}
use Rattle.gate_graph.specs.Trail.{Trail}
use Rattle.gate_graph.specs.Holds.{pins_held}
use Rattle.wire_edit.specs.declared.steps.Step.{Step}
use Rattle.wire_edit.specs.declared.room.Room.{Room}
use Rattle.wire_edit.specs.declared.refusal.EditRefusal.{EditRefusal}
use Rattle.wire_edit.specs.declared.refusal.EditRefusal.TheVariants.{Full}
use Rattle.wire_edit.specs.declared.trial.BeginRefusal.{BeginRefusal}
use Rattle.wire_edit.specs.declared.trial.BeginRefusal.TheVariants.{NoMemory}
use Rattle.gate_graph.specs.Changes.{Edits}
use Rattle.wire_edit.specs.Steps.{change_of, stepped}
use Rattle.wire_edit.specs.Refusals.{room_after}
use Rattle.wire_edit.specs.Order.{next_step, IsTidy}
use Rattle.wire_edit.specs.Edited.{edit_of}

-- the graph, what undoes its steps, the steps, the room that is left, and the room at the start: the last `begin`, `keep`, `take_back` or `make_room`
pub record Tried : Type 0 where
  pub graph : Circuit
  pub trail : Trail
  pub steps : List Step
  pub room : Room
  pub first : Room

-- the pins and the readers in order at the beginning, to which the undos lead back
abbrev pub start_of : Tried → Wiring
start_of t = back_to (wiring t.graph) t.trail.entries

-- the graph has the net and the order of readers of that wiring
abbrev pub IsAt : Circuit → Wiring → Type 0
IsAt w start = (v : Circuit) → wiring v ≡ start → (net_of w ≡ net_of v) × ((n : ℕ) → fanouts_of w n ≡ fanouts_of v n)

-- the same graph and the same start, where there may be more room
pub record StaysAt (old new : Tried) : Type 0 where
  pub is_wired : wiring new.graph ≡ wiring old.graph
  pub net : net_of new.graph ≡ net_of old.graph
  pub readers : (n : ℕ) → fanouts_of new.graph n ≡ fanouts_of old.graph n
  pub start : start_of new ≡ start_of old
  pub epoch : new.graph.epoch ≡ old.graph.epoch
  pub held : pins_held new.graph ≡ pins_held old.graph

-- the refusal, if it is one
abbrev pub refusal_in : {T : Type 0} → Result T EditRefusal → Option EditRefusal
refusal_in (Ok x) = None
refusal_in (Err e) = Some e

-- a refusal gives back the graph as it was
abbrev pub GivesBack : BeginRefusal → Circuit → Type 0
GivesBack (NoMemory v) graph = (wiring v ≡ wiring graph) × ((net_of v ≡ net_of graph) × ((v.epoch ≡ graph.epoch) × (pins_held v ≡ pins_held graph)))

-- the next step of the order is made and given; none where the net is tidy; Full where it isn't and no step has room
abbrev pub Tidies : Tried → Tried → Result (Option Step) EditRefusal → Type 0
Tidies old new (Ok None) = IsTidy (net_of old.graph) × (new ≡ old)
Tidies old new (Ok (Some step)) =
    (next_step (net_of old.graph) ≡ Some step) × ((net_of new.graph ≡ stepped (net_of old.graph) step)
    × (Edits old.graph (edit_of (change_of (net_of old.graph) step)) new.graph × ((new.steps ≡ old.steps ++ step ∷ []) × (new.room ≡ room_after old.room step))))
Tidies old new (Err refusal) = (refusal ≡ Full) × ((next_step (net_of old.graph) ≢ None) × ((old.room.steps ≡ 0) × (new ≡ old)))

-- steps, and how many more have room
pub record StepList : Type 0 where
  pub steps : List Step
  pub spare : ℕ
