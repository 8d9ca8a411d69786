-- The room that a step leaves, and that tidying never lacks any.
use Rattle.std.proofs.Common.{◌≡◌, ℕ, ◌+◌, ◌-◌, ◌<◌, ◌≤◌, Option, Some, None, refl, ◌∙◌, ap, arith}
use Rattle.std.specs.Prelude.{Err}
use Rattle.gate_net.specs.Net.{IsWellFormed}
use Rattle.gate_graph.specs.Circuit.{net_of}
use Rattle.wire_edit.specs.declared.steps.Step.{Step}
use Rattle.wire_edit.specs.declared.steps.Step.TheVariants.{Add, Fix, NewNot, Const, Same, NoPins, OnePin, Twice, Twin, Dead}
use Rattle.wire_edit.specs.declared.refusal.EditRefusal.{EditRefusal}
use Rattle.wire_edit.specs.declared.room.Room.{Room}
use Rattle.wire_edit.specs.Steps.{stepped}
use Rattle.wire_edit.specs.Refusals.{room_after}
use Rattle.wire_edit.specs.Order.{next_step}
use Rattle.wire_edit.specs.Tried.{Tried, Tidies}
use Rattle.wire_edit.specs.Work.{work, RoomForTidying}

pub room_steps : (room : Room) (step : Step) → (room_after room step).steps ≡ room.steps - 1
room_steps room (Add gate y) = refl
room_steps room (NewNot y) = refl
room_steps room (Fix gate position value) = refl
room_steps room (Const gate position) = refl
room_steps room (Same gate position) = refl
room_steps room (NoPins gate) = refl
room_steps room (OnePin gate) = refl
room_steps room (Twice gate) = refl
room_steps room (Twin gate other) = refl
room_steps room (Dead gate) = refl

pub room_on : (room after : Room) (step : Step) (w k : ℕ) → after ≡ room_after room step → w + k ≤ room.steps - 1 → w + k ≤ after.steps
room_on room after step w k is le =
    let e : after.steps ≡ room.steps - 1 = ap (λ (r : Room). r.steps) is ∙ room_steps room step in
    omega (arith, le, e)

pub never_full : RoomForTidying → (t u : Tried) (why : EditRefusal) → IsWellFormed (net_of t.graph) → work (net_of t.graph) ≤ t.room.steps → Tidies t u (Err why) → ⊥
never_full law t u why well le made = at (next_step (net_of t.graph)) refl
  where
    at : (o : Option Step) → next_step (net_of t.graph) ≡ o → ⊥
    at None e = made.1.0 e
    at (Some step) e =
        let r : (0 < t.room.steps) × (work (stepped (net_of t.graph) step) + 0 ≤ t.room.steps - 1) = law (net_of t.graph) step 0 t.room.steps well e (omega (arith, le)) in
        omega (arith, r.0, made.1.1.0)
