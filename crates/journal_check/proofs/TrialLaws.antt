-- A trial that is kept over many records.
use Rattle.std.proofs.Common.{◌≡◌, ℕ, ◌+◌, ◌-◌, ◌<◌, ◌≤◌, Option, Result, Ok, Err, List, [], length, refl, ap, sym, subst, ◌∙◌, inr, arith}
use Rattle.gate_net.specs.Net.{Net, IsWellFormed, gate_count, source_count, wire_count}
use Rattle.gate_graph.specs.Circuit.{Circuit, net_of, wiring, pins_taken, live_nodes}
use Rattle.gate_graph.specs.Undoing.{back_to}
use Rattle.gate_graph.specs.Holds.{HoldsOn, held, pins_held}
use Rattle.gate_graph.specs.declared.undo_list.Undo.{Undo}
use Rattle.refutation.specs.declared.items.Item.{Item}
use Rattle.wire_edit.specs.declared.steps.Step.{Step}
use Rattle.wire_edit.specs.declared.steps.Step.TheVariants as step
use Rattle.wire_edit.specs.declared.room.Room.{Room}
use Rattle.wire_edit.specs.declared.refusal.EditRefusal.{EditRefusal}
use Rattle.wire_edit.specs.Refusals.{IsAnswer, room_after}
use Rattle.wire_edit.specs.Rooms.{RoomsAgree}
use Rattle.wire_edit.specs.Steps.{stepped}
use Rattle.wire_edit.specs.Tried.{IsAt, Tried, start_of}
use Rattle.journal_text.specs.Accepted.{IsAcceptedStep}
use Rattle.journal_text.specs.declared.record.Record.TheVariants as kept
use Rattle.journal_check.specs.declared.state.ReplayState.{ReplayState}
use Rattle.journal_check.specs.declared.state.ReplayState.TheVariants.{Idle, Trying}
use Rattle.journal_check.specs.declared.refusal.Why.{Why}
use Rattle.journal_check.specs.Inner.ReplayStates.{IsEditing, IsIdle, IsReady, RecordSays, net_in, position_of}
use Rattle.journal_check.specs.Replaying.{Leads, Position, editing, goes_on, one_each, refused}
use Rattle.journal_check.specs.Inner.Replaying.{Makes}
use Rattle.journal_check.specs.Inner.Within.{IsWithin}
use Rattle.journal_check.proofs.MadeLaws.{one_answer}
use Rattle.journal_check.proofs.WithinLaws.{nodes_bounded, stays_within, wires_bounded}

pub idle_edits : (g : Circuit) → IsIdle g → IsEditing (Idle g)
idle_edits g i = record { state = i; editing_at = refl }

pub ready_edits : (t : Tried) (left : ℕ) → IsReady t left → IsEditing (Trying t left)
ready_edits t left r = record { state = r; editing_at = refl }

-- the answer to a step, as of room for one
pub ready_answer : RoomsAgree → (t : Tried) (left : ℕ) (s : Step) (r : Option EditRefusal) → IsReady t left → 0 < left → IsAnswer (net_of t.graph) t.room s r → IsAnswer (net_of t.graph) one_each s r
ready_answer agree t left s r ready some a =
    one_answer agree (net_of t.graph) t.room s r (record { pins = omega (arith, ready.pins, some); nodes = omega (arith, ready.nodes, some); steps = omega (arith, ready.steps, some) }) a

start_is : (t : Tried) → t.trail.entries ≡ [] → start_of t ≡ wiring t.graph
start_is t e = ap (λ (es : List Undo). back_to (wiring t.graph) es) e

-- rolled back, the graph is as it was before the step
pub rolled_net : (t u : Tried) (g : Circuit) (left : ℕ) → IsReady t left → start_of u ≡ start_of t → IsAt g (start_of u) → net_of g ≡ net_of t.graph
rolled_net t u g left r s at = (at t.graph (sym (s ∙ start_is t r.entries))).0

no_pins_held : (es : List Undo) → es ≡ [] → length (held es) ≡ 0
no_pins_held es e = ap (λ (fs : List Undo). length (held fs)) e

pub rolled_idle : (t u : Tried) (g : Circuit) (left : ℕ) → IsReady t left → start_of u ≡ start_of t → HoldsOn t.graph u.graph t.trail.entries u.trail.entries → IsAt g (start_of u) → pins_held g + length (held u.trail.entries) ≡ pins_held u.graph → IsIdle g
rolled_idle t u g left r s h at back = record {
  held = let none : length (held t.trail.entries) ≡ 0 = no_pins_held t.trail.entries r.entries in omega (arith, none, h, back, r.idle.held);
  within = subst IsWithin (sym (rolled_net t u g left r s at)) r.idle.within;
}

room_left : (room : Room) (s : Step) (left : ℕ) → left ≤ room.pins → left ≤ room.nodes → left ≤ room.steps
    → (left - 1 ≤ (room_after room s).pins) × ((left - 1 ≤ (room_after room s).nodes) × (left - 1 ≤ (room_after room s).steps))
room_left room (step.Add gate node) left p n t = (omega (arith, p), (omega (arith, n), omega (arith, t)))
room_left room (step.NewNot node) left p n t = (omega (arith, p), (omega (arith, n), omega (arith, t)))
room_left room (step.Fix gate position value) left p n t = (omega (arith, p), (omega (arith, n), omega (arith, t)))
room_left room (step.Const gate position) left p n t = (omega (arith, p), (omega (arith, n), omega (arith, t)))
room_left room (step.Same gate position) left p n t = (omega (arith, p), (omega (arith, n), omega (arith, t)))
room_left room (step.NoPins gate) left p n t = (omega (arith, p), (omega (arith, n), omega (arith, t)))
room_left room (step.OnePin gate) left p n t = (omega (arith, p), (omega (arith, n), omega (arith, t)))
room_left room (step.Twice gate) left p n t = (omega (arith, p), (omega (arith, n), omega (arith, t)))
room_left room (step.Twin gate other) left p n t = (omega (arith, p), (omega (arith, n), omega (arith, t)))
room_left room (step.Dead gate) left p n t = (omega (arith, p), (omega (arith, n), omega (arith, t)))

-- an accepted step is kept, and the trial goes on
pub settled_ready : (t u v : Tried) (left : ℕ) (s : Step) (tree : List Item) → IsWellFormed (net_of t.graph) → IsReady t left → IsAcceptedStep (net_of t.graph) s tree
    → HoldsOn t.graph u.graph t.trail.entries u.trail.entries → u.room ≡ room_after t.room s → u.first ≡ t.first → net_of v.graph ≡ stepped (net_of t.graph) s → v.trail.entries ≡ [] → v.steps ≡ [] → v.room ≡ record u.room { steps = u.first.steps } → v.first ≡ v.room
    → pins_held v.graph + length (held u.trail.entries) ≡ pins_held u.graph → IsReady v (left - 1)
settled_ready t u v left s tree well r accepted h room first net entries none_made same starts back =
    let none : length (held t.trail.entries) ≡ 0 = no_pins_held t.trail.entries r.entries in
    let pins : v.room.pins ≡ (room_after t.room s).pins = ap (λ (x : Room). x.pins) same ∙ ap (λ (x : Room). x.pins) room in
    let nodes : v.room.nodes ≡ (room_after t.room s).nodes = ap (λ (x : Room). x.nodes) same ∙ ap (λ (x : Room). x.nodes) room in
    let steps : v.room.steps ≡ t.first.steps = ap (λ (x : Room). x.steps) same ∙ ap (λ (x : Room). x.steps) first in
    let rooms = room_left t.room s left r.pins r.nodes r.steps in
    record {
      entries = entries;
      idle = record {
        held = omega (arith, none, h, back, r.idle.held);
        within = subst IsWithin (sym net) (stays_within (net_of t.graph) s well accepted.applies accepted.grows r.idle.within);
      };
      none_made = none_made;
      pins = omega (arith, pins, rooms.0);
      nodes = omega (arith, nodes, rooms.1.0);
      steps = omega (arith, steps, r.first_steps);
      first_steps = omega (arith, steps, r.first_steps, ap (λ (x : Room). x.steps) starts);
    }

-- numbers suffice for that much room
pub room_pins : (g : Circuit) (left : ℕ) → IsIdle g → wire_count (net_of g) + length (net_of g).observed + pins_held g ≡ pins_taken g → left ≤ 536870912 → pins_taken g + left ≤ 4294967295
room_pins g left i e l = omega (arith, e, l, i.held, wires_bounded (net_of g) i.within, i.within.observed)

pub room_nodes : (g : Circuit) (left : ℕ) → IsIdle g → live_nodes g ≡ 2 + source_count (net_of g) + gate_count (net_of g) → left ≤ 536870912 → live_nodes g + left ≤ 4294967295
room_nodes g left i e l = omega (arith, e, l, nodes_bounded (net_of g) i.within)

-- a step that is made, or not, says what its record says
pub makes_says : (budget : ℕ) (p : Position) (net : Net) (s : Step) (tree : List Item) (after : ReplayState) (answer : Result (Unit {0}) Why) → p ≡ editing net → Makes net s tree (net_in after) answer → IsEditing after
    → RecordSays budget p (kept.Step s tree) (position_of after) answer
makes_says budget p net s tree after (Ok u) e m i =
    subst (λ (q : Position). Leads budget q (kept.Step s tree) (goes_on (position_of after))) (sym e)
    (inr (inr (m.0, ap goes_on (i.editing_at ∙ ap editing m.1))))
makes_says budget p net s tree after (Err w) e m i =
    (i.editing_at ∙ ap editing m.0 ∙ sym e, λ n. subst (λ (q : Position). Leads budget q (kept.Step s tree) (refused w)) (sym e) (m.1 n))
