-- What every list of calls keeps.
use Rattle.std.proofs.Common.{◌≡◌, ◌≢◌, ◌≤◌, ◌<◌, ℕ, zero, suc, ◌-◌, Option, Some, None, List, [], ◌∷◌, refl, ◌∙◌, sym, ap, subst, arith}
use Rattle.std.specs.Prelude.{Result, Ok, Err}
use Rattle.gate_net.specs.Net.{IsWellFormed}
use Rattle.gate_graph.specs.Circuit.{net_of, SameWiring}
use Rattle.wire_edit.specs.declared.steps.Step.{Step}
use Rattle.wire_edit.specs.declared.steps.Step.TheVariants.{Add, Fix, NewNot, Const, Same, NoPins, OnePin, Twice, Twin, Dead}
use Rattle.wire_edit.specs.declared.refusal.EditRefusal.{EditRefusal}
use Rattle.wire_edit.specs.declared.room.Room.{Room}
use Rattle.wire_edit.specs.Steps.{Applies, change_of, stepped}
use Rattle.wire_edit.specs.Refusals.{room_after}
use Rattle.wire_edit.specs.Laws.{IsTidying}
use Rattle.wire_edit.specs.Order.{next_step}
use Rattle.wire_edit.specs.Work.{work}
use Rattle.wire_edit.specs.Tried.{Tried, start_of, Tidies}
use Rattle.wire_edit.specs.Calls.{Call, apply, tidy_one, AreCalls, RollbackRestores, tidy_calls, TidyingHasRoom}
use Rattle.wire_edit.proofs.Conditions.{applies_changes}
use Rattle.wire_edit.proofs.Formed.{changes_keep_form}
use Rattle.wire_edit.proofs.Ordering.{next_applies}
use Rattle.wire_edit.proofs.Ending.{tidying_ends}

calls_keep : (calls : List Call) (first last : Tried) → AreCalls first calls last → (start_of last ≡ start_of first) × (last.graph.epoch ≡ first.graph.epoch)
calls_keep [] first last is = (ap start_of is, ap (λ (t : Tried). t.graph.epoch) is)
calls_keep (apply step ∷ calls) first last (next, made) =
    let rest : (start_of last ≡ start_of next) × (last.graph.epoch ≡ next.graph.epoch) = calls_keep calls next last made.1 in
    (rest.0 ∙ made.0.1.start, rest.1 ∙ made.0.1.epoch)
calls_keep (tidy_one ∷ calls) first last (next, made) =
    let rest : (start_of last ≡ start_of next) × (last.graph.epoch ≡ next.graph.epoch) = calls_keep calls next last made.1 in
    (rest.0 ∙ made.0.1.start, rest.1 ∙ made.0.1.epoch)

pub restored : SameWiring → RollbackRestores
restored same graph back first last calls begun made rolled =
    let kept : (start_of last ≡ start_of first) × (last.graph.epoch ≡ first.graph.epoch) = calls_keep calls first last made in
    let s : _ × _ = same back graph (rolled.start ∙ kept.0 ∙ begun.start) in
    record { net = s.0; readers = s.1; epoch = rolled.epoch ∙ kept.1 ∙ begun.epoch }

-- TIDYING HAS ROOM
-- the net is well formed, and there are steps for its work
abbrev HasSteps : Tried → Type 0
HasSteps t = IsWellFormed (net_of t.graph) × (work (net_of t.graph) ≤ t.room.steps)

steps_after : (room : Room) (step : Step) → IsTidying step → (room_after room step).steps ≡ room.steps - 1
steps_after room (Add gate node) t = absurd t
steps_after room (Fix gate position value) t = absurd t
steps_after room (NewNot node) t = absurd t
steps_after room (Const gate position) t = refl
steps_after room (Same gate position) t = refl
steps_after room (NoPins gate) t = refl
steps_after room (OnePin gate) t = refl
steps_after room (Twice gate) t = refl
steps_after room (Twin gate other) t = refl
steps_after room (Dead gate) t = refl

some_next : (o : Option Step) → o ≢ None → (step : Step) × (o ≡ Some step)
some_next None ne = absurd (ne refl)
some_next (Some step) ne = (step, refl)

tidied_has : (old new : Tried) (answer : Result (Option Step) EditRefusal) → HasSteps old → Tidies old new answer → HasSteps new
tidied_has old new (Ok None) has t = subst HasSteps (sym t.1) has
tidied_has old new (Ok (Some step)) has t =
    let a : IsTidying step × Applies (net_of old.graph) step = next_applies (net_of old.graph) step t.0 in
    let falls : work (stepped (net_of old.graph) step) < work (net_of old.graph) = tidying_ends (net_of old.graph) step has.0 t.0 in
    let formed : IsWellFormed (stepped (net_of old.graph) step) = changes_keep_form (net_of old.graph) (change_of (net_of old.graph) step) has.0 (applies_changes (net_of old.graph) step has.0 a.1) in
    let room_is : new.room.steps ≡ (room_after old.room step).steps = ap (λ (r : Room). r.steps) t.1.1.1.1 in (
      subst IsWellFormed (sym t.1.0) formed,
      omega (arith, ap work t.1.0, falls, has.1, room_is, steps_after old.room step a.0),
    )
tidied_has old new (Err why) has t = subst HasSteps (sym t.1.1.1) has

never_full : (old new : Tried) (answer : Result (Option Step) EditRefusal) (why : EditRefusal) → HasSteps old → Tidies old new answer → answer ≡ Err why → ⊥
never_full old new (Ok o) why has t e = cc
never_full old new (Err other) why has t e =
    let next : (step : Step) × (next_step (net_of old.graph) ≡ Some step) = some_next (next_step (net_of old.graph)) t.1.0 in
    let falls : work (stepped (net_of old.graph) next.0) < work (net_of old.graph) = tidying_ends (net_of old.graph) next.0 has.0 next.1 in
    omega (arith, falls, has.1, t.1.1.0)

calls_have : (count : ℕ) (first last : Tried) → HasSteps first → AreCalls first (tidy_calls count) last → HasSteps last
calls_have zero first last has is = subst HasSteps (sym is) has
calls_have (suc n) first last has (next, (made, rest)) = calls_have n next last (tidied_has first next made.0 has made.1.tidies) rest

pub tidying_has_room : TidyingHasRoom
tidying_has_room first last new count answer why well steps calls tidied e = never_full last new answer why (calls_have count first last (well, steps) calls) tidied.tidies e
