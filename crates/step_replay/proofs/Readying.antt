-- A trial that is kept over many steps.
use Rattle.std.proofs.Common.{◌≡◌, ℕ, ◌+◌, ◌-◌, ◌<◌, ◌≤◌, true, Option, None, List, [], ◌∷◌, drop, length, refl, ap, sym, ◌∙◌, subst, arith, add-one}
use Rattle.std.specs.Prelude.{slice_get, Some, nat_lt}
use Rattle.std.proofs.lemmas.Bool.{lt-ltb}
use Rattle.gate_net.specs.Net.{Net, gate_count, source_count, wire_count}
use Rattle.gate_graph.specs.Circuit.{Circuit, live_nodes, net_of, pins_taken}
use Rattle.gate_graph.specs.Holds.{HoldsOn, held, pins_held}
use Rattle.gate_graph.specs.declared.undo_list.Undo.{Undo}
use Rattle.rm_base.proofs.Public.{drop_stands}
use Rattle.wire_edit.specs.declared.steps.Step.{Step}
use Rattle.wire_edit.specs.declared.steps.Step.TheVariants as step
use Rattle.wire_edit.specs.declared.room.Room.{Room}
use Rattle.wire_edit.specs.declared.refusal.EditRefusal.{EditRefusal}
use Rattle.wire_edit.specs.Refusals.{IsAnswer, ceiling, has_room, live_count, room_after}
use Rattle.wire_edit.specs.Rooms.{ApplicableIsMade}
use Rattle.wire_edit.specs.Steps.{Applies}
use Rattle.wire_edit.specs.Tried.{Tried}
use Rattle.journal_text.specs.Accepted.{MayGrow}
use Rattle.step_replay.specs.Inner.Making.{AreMakeable, IsReady, IsSmall}

-- numbers suffice for that much room
pub room_pins : (g : Circuit) (left : ℕ) → IsSmall (net_of g) → pins_held g ≡ 0 → wire_count (net_of g) + length (net_of g).observed + pins_held g ≡ pins_taken g → left ≤ 536870912 → pins_taken g + left ≤ 4294967295
room_pins g left small none e l = omega (arith, e, l, none, small.wires, small.observed)

pub room_nodes : (g : Circuit) (left : ℕ) → IsSmall (net_of g) → live_nodes g ≡ 2 + source_count (net_of g) + gate_count (net_of g) → left ≤ 536870912 → live_nodes g + left ≤ 4294967295
room_nodes g left small e l = omega (arith, e, l, small.nodes)

below : (n left : ℕ) → 0 < left → left ≤ n → nat_lt 0 n ≡ true
below n left some le = lt-ltb 0 n (omega (arith, some, le))

-- there is room for a step
room_for_one : (net : Net) (room : Room) (left : ℕ) (s : Step) → 0 < left → left ≤ room.pins → left ≤ room.nodes → left ≤ room.steps → MayGrow net s → has_room net room s ≡ true
room_for_one net room left (step.Add gate node) some p n t grows = rw (below room.steps left some t, below room.pins left some p, lt-ltb (wire_count net) ceiling grows) refl
room_for_one net room left (step.NewNot node) some p n t grows = rw (below room.steps left some t, below room.pins left some p, below room.nodes left some n, lt-ltb (live_count net) ceiling grows) refl
room_for_one net room left (step.Fix gate position value) some p n t grows = below room.steps left some t
room_for_one net room left (step.Const gate position) some p n t grows = below room.steps left some t
room_for_one net room left (step.Same gate position) some p n t grows = below room.steps left some t
room_for_one net room left (step.NoPins gate) some p n t grows = below room.steps left some t
room_for_one net room left (step.OnePin gate) some p n t grows = below room.steps left some t
room_for_one net room left (step.Twice gate) some p n t grows = below room.steps left some t
room_for_one net room left (step.Twin gate other) some p n t grows = below room.steps left some t
room_for_one net room left (step.Dead gate) some p n t grows = below room.steps left some t

-- so a step that may be made isn't refused
pub not_refused : ApplicableIsMade → (t : Tried) (left : ℕ) (s : Step) (r : Option EditRefusal) → IsReady t left → 0 < left → Applies (net_of t.graph) s → MayGrow (net_of t.graph) s → IsAnswer (net_of t.graph) t.room s r → r ≡ None
not_refused made t left s r ready some applies grows answer =
    made (net_of t.graph) t.room s r applies (room_for_one (net_of t.graph) t.room left s some ready.pins ready.nodes ready.steps grows) answer

no_pins_held : (es : List Undo) → es ≡ [] → length (held es) ≡ 0
no_pins_held es e = ap (λ (fs : List Undo). length (held fs)) e

room_left : (room : Room) (s : Step) (left : ℕ) → left ≤ room.pins → left ≤ room.nodes → left ≤ room.steps
    → (left - 1 ≤ (room_after room s).pins) × ((left - 1 ≤ (room_after room s).nodes) × (left - 1 ≤ (room_after room s).steps))
room_left room (step.Add gate node) left p n t = (omega (arith, p), (omega (arith, n), omega (arith, t)))
room_left room (step.NewNot node) left p n t = (omega (arith, p), (omega (arith, n), omega (arith, t)))
room_left room (step.Fix gate position value) left p n t = (omega (arith, p), (omega (arith, n), omega (arith, t)))
room_left room (step.Const gate position) left p n t = (omega (arith, p), (omega (arith, n), omega (arith, t)))
room_left room (step.Same gate position) left p n t = (omega (arith, p), (omega (arith, n), omega (arith, t)))
room_left room (step.NoPins gate) left p n t = (omega (arith, p), (omega (arith, n), omega (arith, t)))
room_left room (step.OnePin gate) left p n t = (omega (arith, p), (omega (arith, n), omega (arith, t)))
room_left room (step.Twice gate) left p n t = (omega (arith, p), (omega (arith, n), omega (arith, t)))
room_left room (step.Twin gate other) left p n t = (omega (arith, p), (omega (arith, n), omega (arith, t)))
room_left room (step.Dead gate) left p n t = (omega (arith, p), (omega (arith, n), omega (arith, t)))

-- a step is kept, and the trial goes on
pub ready_next : (t u v : Tried) (left : ℕ) (s : Step) → IsReady t left → HoldsOn t.graph u.graph t.trail.entries u.trail.entries → u.room ≡ room_after t.room s → u.first ≡ t.first
    → v.trail.entries ≡ [] → v.steps ≡ [] → v.room ≡ record u.room { steps = u.first.steps } → v.first ≡ v.room → pins_held v.graph + length (held u.trail.entries) ≡ pins_held u.graph → IsReady v (left - 1)
ready_next t u v left s r h room first entries none_made same starts back =
    let none : length (held t.trail.entries) ≡ 0 = no_pins_held t.trail.entries r.entries in
    let pins : v.room.pins ≡ (room_after t.room s).pins = ap (λ (x : Room). x.pins) same ∙ ap (λ (x : Room). x.pins) room in
    let nodes : v.room.nodes ≡ (room_after t.room s).nodes = ap (λ (x : Room). x.nodes) same ∙ ap (λ (x : Room). x.nodes) room in
    let steps : v.room.steps ≡ t.first.steps = ap (λ (x : Room). x.steps) same ∙ ap (λ (x : Room). x.steps) first in
    let rooms = room_left t.room s left r.pins r.nodes r.steps in
    record {
      entries = entries;
      none_made = none_made;
      held = omega (arith, none, h, back, r.held);
      pins = omega (arith, pins, rooms.0);
      nodes = omega (arith, nodes, rooms.1.0);
      steps = omega (arith, steps, r.first_steps);
      first_steps = omega (arith, steps, r.first_steps, ap (λ (x : Room). x.steps) starts);
    }

-- the next of the steps that are left
pub next_makeable : (net : Net) (steps : List Step) (i : ℕ) (s : Step) → slice_get steps i ≡ Some s → AreMakeable net (drop i steps) → AreMakeable net (s ∷ drop (i + 1) steps)
next_makeable net steps i s e a =
    let next : drop i steps ≡ s ∷ drop (i + 1) steps = drop_stands steps i s e ∙ ap (λ (k : ℕ). s ∷ drop k steps) (sym (add-one i)) in
    subst (AreMakeable net) next a

pub makeable_small : (net : Net) (steps : List Step) → AreMakeable net steps → IsSmall net
makeable_small net [] a = a
makeable_small net (s ∷ steps) a = a.0
