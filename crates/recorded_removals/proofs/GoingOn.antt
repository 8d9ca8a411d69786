-- Going on inside a trial, step by step.
use Rattle.std.proofs.Common.{◌≡◌, ℕ, ◌+◌, ◌-◌, ◌<◌, ◌≤◌, Bool, true, false, Option, Some, None, List, [], ◌∷◌, ◌++◌, length, refl, sym, ◌∙◌, ap, subst, append_assoc, arith}
use Rattle.std.specs.Prelude.{Ok, nat_lt}
use Rattle.gate_net.specs.Edits.{fixed}
use Rattle.wire_edit.specs.Changes.{Change}
use Rattle.wire_edit.specs.Inner.Changes.{nodes_added}
use Rattle.std.proofs.lemmas.Bool.{lt-ltb}
use Rattle.std.proofs.lemmas.List.{append-nil, length-append}
use Rattle.rm_base.specs.declared.numbers.Fault.{Fault}
use Rattle.rm_base.specs.declared.numbers.NodeId.{NodeId}
use Rattle.gate_net.specs.Net.{Net, drivers_of, IsWellFormed, wire_count}
use Rattle.gate_graph.specs.Circuit.{net_of}
use Rattle.gate_graph.specs.Holds.{HoldsOn}
use Rattle.refutation.specs.Branches.{AreAccepted}
use Rattle.refutation.specs.declared.items.Item.{Item}
use Rattle.wire_edit.proofs.Public.{applies_changes, constant_cases, fix_applies, gate_live, is_live_there, length_budget, next_applies, removal_frees, removal_pins, room_on, room_steps, tidying_removes, wires_grow}
use Rattle.wire_edit.specs.declared.steps.Step.{Step}
use Rattle.wire_edit.specs.declared.steps.Step.TheVariants.{Add, Fix, NewNot, Const, Same, NoPins, OnePin, Twice, Twin, Dead}
use Rattle.wire_edit.specs.declared.refusal.EditRefusal.{EditRefusal}
use Rattle.wire_edit.specs.declared.room.Room.{Room}
use Rattle.wire_edit.specs.Tests.{is_live, is_xor, constant_at, family_of}
use Rattle.wire_edit.specs.Steps.{Applies, stepped, change_of, other_driver, same_change}
use Rattle.wire_edit.specs.Refusals.{refusal_of, room_after, IsAnswer}
use Rattle.wire_edit.specs.Laws.{IsTidying, StepsKeepSources}
use Rattle.wire_edit.specs.Tried.{Tried, start_of, Tidies}
use Rattle.wire_edit.specs.Work.{work, pins_made, FixesEnd, RoomForTidying, RoomForFixes, TidyingEnds}
use Rattle.journal_text.specs.declared.record.Record.{Record}
use Rattle.journal_text.specs.Accepted.{IsJustified, MayGrow, IsAcceptedStep}
use Rattle.journal_text.specs.Runs.{steps_of, AreRemovals}
use Rattle.recorded_removals.specs.Going.{AddsLocal, AreTidying, Logs, IsLeft, IsNoLarger, Tallies, Goes}
use Rattle.recorded_removals.proofs.Gates.{no_gates, places_stay, turns_xor}
use Rattle.journal_text.proofs.Public.{accepted_then}
use Rattle.wire_edit.specs.Removals.{HasFreePin, IsRemoval}
use Rattle.journal_text.specs.declared.record.Record.TheVariants as record_of

-- LISTS OF RECORDS
pub removals_then : (first second : List Record) → AreRemovals (steps_of first) → AreRemovals (steps_of second) → AreRemovals (steps_of (first ++ second))
removals_then [] second a b = b
removals_then (record_of.Step step tree ∷ first) second a b = (a.0, removals_then first second a.1 b)
removals_then (record_of.Hit fault vector ∷ first) second a b = removals_then first second a b
removals_then (record_of.Spent fault tree ∷ first) second a b = removals_then first second a b

pub logs_none : (net : Net) (log : List Record) → Logs net net log log
logs_none net log = record { more = []; added = sym (append-nil log); accepted = refl; removals = tt; spent = omega arith }

pub logs_then : (net mid after : Net) (a b c : List Record) → Logs net mid a b → Logs mid after b c → Logs net after a c
logs_then net mid after a b c l m =
    let size : length (l.more ++ m.more) ≡ length l.more + length m.more = length-append l.more m.more in
    record {
      more = l.more ++ m.more;
      added = m.added ∙ ap (λ (xs : List Record). xs ++ m.more) l.added ∙ append_assoc a l.more m.more;
      accepted = accepted_then net mid after l.more m.more l.accepted m.accepted;
      removals = removals_then l.more m.more l.removals m.removals;
      spent = omega (arith, size, l.spent, m.spent);
    }

pub logs_one : (net : Net) (step : Step) (tree : List Item) (log new : List Record) → IsAcceptedStep net step tree → IsRemoval step → work (stepped net step) + 1 ≤ work net → new ≡ log ++ record_of.Step step tree ∷ [] → Logs net (stepped net step) log new
logs_one net step tree log new accepted removal falls is = record { more = record_of.Step step tree ∷ []; added = is; accepted = (accepted, refl); removals = (removal, tt); spent = omega (arith, falls) }

tidying_then : (first second : List Record) → AreTidying (steps_of first) → AreTidying (steps_of second) → AreTidying (steps_of (first ++ second))
tidying_then [] second a b = b
tidying_then (record_of.Step step tree ∷ first) second a b = (a.0, tidying_then first second a.1 b)
tidying_then (record_of.Hit fault vector ∷ first) second a b = tidying_then first second a b
tidying_then (record_of.Spent fault tree ∷ first) second a b = tidying_then first second a b

pub local_none : (log : List Record) → AddsLocal log log
local_none log = record { more = []; added = sym (append-nil log); local = tt }

pub local_then : (a b c : List Record) → AddsLocal a b → AddsLocal b c → AddsLocal a c
local_then a b c l m = record {
  more = l.more ++ m.more;
  added = m.added ∙ ap (λ (xs : List Record). xs ++ m.more) l.added ∙ append_assoc a l.more m.more;
  local = tidying_then l.more m.more l.local m.local;
}

pub local_one : (step : Step) (tree : List Item) (log new : List Record) → IsTidying step → new ≡ log ++ record_of.Step step tree ∷ [] → AddsLocal log new
local_one step tree log new tidying is = record { more = record_of.Step step tree ∷ []; added = is; local = (tidying, tt) }

-- what neither adds nor fixes removes
pub tidying_are_removals : (steps : List Step) → AreTidying steps → AreRemovals steps
tidying_are_removals [] t = tt
tidying_are_removals (s ∷ steps) t = (tidying_removes s t.0, tidying_are_removals steps t.1)

-- SIZES
nodes_same : (gate p : ℕ) (at_xor : Bool) → nodes_added (same_change gate p at_xor) ≡ 0
nodes_same gate p true = refl
nodes_same gate p false = refl

removal_nodes : (net : Net) (step : Step) → IsRemoval step → nodes_added (change_of net step) ≡ 0
removal_nodes net (Add gate y) r = absurd r
removal_nodes net (Fix gate position value) r = refl
removal_nodes net (NewNot y) r = absurd r
removal_nodes net (Const gate position) r = constant_cases (λ (c : Change). nodes_added c ≡ 0) gate.0 position (other_driver net gate.0 position) (family_of net gate.0) (constant_at net gate.0 position) refl refl (λ to. refl)
removal_nodes net (Same gate position) r = nodes_same gate.0 position (is_xor net gate.0)
removal_nodes net (NoPins gate) r = refl
removal_nodes net (OnePin gate) r = refl
removal_nodes net (Twice gate) r = refl
removal_nodes net (Twin gate other) r = refl
removal_nodes net (Dead gate) r = refl

no_nodes : (net : Net) (step : Step) → IsRemoval step → length (stepped net step).nodes ≤ length net.nodes
no_nodes net step r =
    let le : length (stepped net step).nodes ≤ length net.nodes + nodes_added (change_of net step) = length_budget net (change_of net step) in
    let none : nodes_added (change_of net step) ≡ 0 = removal_nodes net step r in
    omega (arith, le, none)

pub no_larger : StepsKeepSources → (net : Net) (step : Step) → IsWellFormed net → Applies net step → IsRemoval step → IsNoLarger net (stepped net step)
no_larger sources net step well applies r =
    let w : wire_count (stepped net step) ≤ wire_count net + pins_made step = wires_grow net step well applies in
    let none : pins_made step ≡ 0 = removal_pins step r in
    record {
      wires = omega (arith, w, none);
      free = removal_frees net step well applies r;
      gates = no_gates net step (turns_xor net (change_of net step) (applies_changes net step well applies)) (removal_nodes net step r);
      numbers = no_nodes net step r;
      sources = sources net step well applies;
      places = places_stay net (change_of net step);
    }

pub no_larger_same : (net : Net) → IsNoLarger net net
no_larger_same net = record { wires = omega arith; free = omega arith; gates = omega arith; numbers = omega arith; sources = refl; places = refl }

pub no_larger_then : (net mid after : Net) → IsNoLarger net mid → IsNoLarger mid after → IsNoLarger net after
no_larger_then net mid after a b = record {
  wires = omega (arith, a.wires, b.wires);
  free = omega (arith, a.free, b.free);
  gates = omega (arith, a.gates, b.gates);
  numbers = omega (arith, a.numbers, b.numbers);
  sources = b.sources ∙ a.sources;
  places = b.places ∙ a.places;
}

-- TALLIES
pub tallies_none : (t : Tried) (log : List Record) → Tallies t t log log
tallies_none t log = record { spent = refl; holds = refl }

pub tallies_then : (t u v : Tried) (a b c : List Record) → Tallies t u a b → Tallies u v b c → Tallies t v a c
tallies_then t u v a b c f g = record { spent = g.spent ∙ f.spent; holds = omega (arith, f.holds, g.holds) }

-- a step was made and recorded
pub tallies_one : (t u : Tried) (r : Record) (log new : List Record) → new ≡ log ++ r ∷ [] → 0 < t.room.steps → u.room.steps ≡ t.room.steps - 1 → HoldsOn t.graph u.graph t.trail.entries u.trail.entries → Tallies t u log new
tallies_one t u r log new is some room holds =
    let n : length new ≡ length log + 1 = ap (λ (rs : List Record). length rs) is ∙ length-append log (r ∷ []) in
    record { spent = omega (arith, n, some, room); holds = holds }

-- WHAT IS LEFT OF THE ROOM
pub left_then : (t u v : Tried) (p n q m : ℕ) → IsLeft t u p n → IsLeft u v q m → IsLeft t v (p + q) (n + m)
left_then t u v p n q m a b = record { pins = omega (arith, a.pins, b.pins); nodes = omega (arith, a.nodes, b.nodes) }

-- a removal takes no pins and no nodes of it
room_kept : (room : Room) (step : Step) → IsRemoval step → ((room_after room step).pins ≡ room.pins) × ((room_after room step).nodes ≡ room.nodes)
room_kept room (Add gate y) r = absurd r
room_kept room (NewNot y) r = absurd r
room_kept room (Fix gate position value) r = (refl, refl)
room_kept room (Const gate position) r = (refl, refl)
room_kept room (Same gate position) r = (refl, refl)
room_kept room (NoPins gate) r = (refl, refl)
room_kept room (OnePin gate) r = (refl, refl)
room_kept room (Twice gate) r = (refl, refl)
room_kept room (Twin gate other) r = (refl, refl)
room_kept room (Dead gate) r = (refl, refl)

left_one : (t u : Tried) (step : Step) → IsRemoval step → u.room ≡ room_after t.room step → IsLeft t u 0 0
left_one t u step r is =
    let k : ((room_after t.room step).pins ≡ t.room.pins) × ((room_after t.room step).nodes ≡ t.room.nodes) = room_kept t.room step r in
    record { pins = omega (arith, k.0, ap (λ (m : Room). m.pins) is); nodes = omega (arith, k.1, ap (λ (m : Room). m.nodes) is) }

-- GOING ON
pub goes_none : (t : Tried) (log : List Record) → Goes t t log log
goes_none t log = record { logs = logs_none (net_of t.graph) log; no_larger = no_larger_same (net_of t.graph); start = refl; first = refl; epoch = refl; room = λ k le. le; tallies = tallies_none t log; left = record { pins = omega arith; nodes = omega arith } }

pub goes_then : (t u v : Tried) (a b c : List Record) → Goes t u a b → Goes u v b c → Goes t v a c
goes_then t u v a b c g h = record {
  logs = logs_then (net_of t.graph) (net_of u.graph) (net_of v.graph) a b c g.logs h.logs;
  no_larger = no_larger_then (net_of t.graph) (net_of u.graph) (net_of v.graph) g.no_larger h.no_larger;
  start = h.start ∙ g.start;
  first = h.first ∙ g.first;
  epoch = h.epoch ∙ g.epoch;
  room = λ k le. h.room k (g.room k le);
  tallies = tallies_then t u v a b c g.tallies h.tallies;
  left = left_then t u v 0 0 0 0 g.left h.left;
}

-- a removal was made and recorded
pub goes_one :
    StepsKeepSources → (t u : Tried) (step : Step) (tree : List Item) (log new : List Record) → IsWellFormed (net_of t.graph) → IsAcceptedStep (net_of t.graph) step tree → IsRemoval step
    → work (stepped (net_of t.graph) step) + 1 ≤ work (net_of t.graph) → net_of u.graph ≡ stepped (net_of t.graph) step → new ≡ log ++ record_of.Step step tree ∷ [] → start_of u ≡ start_of t → u.first ≡ t.first → u.graph.epoch ≡ t.graph.epoch
    → ((k : ℕ) → work (net_of t.graph) + k ≤ t.room.steps → work (net_of u.graph) + k ≤ u.room.steps) → Tallies t u log new → u.room ≡ room_after t.room step → Goes t u log new
goes_one sources t u step tree log new well accepted removal falls net is start first epoch room tallies after = record {
  logs = subst (λ (n : Net). Logs (net_of t.graph) n log new) (sym net) (logs_one (net_of t.graph) step tree log new accepted removal falls is);
  no_larger = subst (λ (n : Net). IsNoLarger (net_of t.graph) n) (sym net) (no_larger sources (net_of t.graph) step well accepted.applies removal);
  start = start;
  first = first;
  epoch = epoch;
  room = room;
  tallies = tallies;
  left = left_one t u step removal after;
}

-- A FIX IS NOT REFUSED
pub fix_made : (net : Net) (room : Room) (gate : NodeId) (p : ℕ) (value cyclic : Bool) → Applies net (Fix gate p value) → 0 < room.steps → refusal_of net room (Fix gate p value) cyclic ≡ None
fix_made net room gate p value cyclic (g, lt) some =
    let live : is_live net gate.0 ≡ true = is_live_there net gate.0 (gate_live net gate.0 g) in
    let pin : nat_lt p (length (drivers_of net gate.0)) ≡ true = lt-ltb p (length (drivers_of net gate.0)) lt in
    let left : nat_lt 0 room.steps ≡ true = lt-ltb 0 room.steps some in
    rw (live, g, pin, left) refl

-- TIDYING
tidying_justified : (net : Net) (step : Step) → IsTidying step → IsJustified net step []
tidying_justified net (Add gate y) t = absurd t
tidying_justified net (Fix gate position value) t = absurd t
tidying_justified net (NewNot y) t = absurd t
tidying_justified net (Const gate position) t = refl
tidying_justified net (Same gate position) t = refl
tidying_justified net (NoPins gate) t = refl
tidying_justified net (OnePin gate) t = refl
tidying_justified net (Twice gate) t = refl
tidying_justified net (Twin gate other) t = refl
tidying_justified net (Dead gate) t = refl

tidying_grows : (net : Net) (step : Step) → IsTidying step → MayGrow net step
tidying_grows net (Add gate y) t = absurd t
tidying_grows net (Fix gate position value) t = absurd t
tidying_grows net (NewNot y) t = absurd t
tidying_grows net (Const gate position) t = tt
tidying_grows net (Same gate position) t = tt
tidying_grows net (NoPins gate) t = tt
tidying_grows net (OnePin gate) t = tt
tidying_grows net (Twice gate) t = tt
tidying_grows net (Twin gate other) t = tt
tidying_grows net (Dead gate) t = tt

pub tidied_step :
    StepsKeepSources → RoomForTidying → TidyingEnds → (t u : Tried) (step : Step) (log new : List Record) → IsWellFormed (net_of t.graph) → Tidies t u (Ok (Some step)) → start_of u ≡ start_of t → u.first ≡ t.first → u.graph.epoch ≡ t.graph.epoch
    → new ≡ log ++ record_of.Step step [] ∷ [] → 0 < t.room.steps → HoldsOn t.graph u.graph t.trail.entries u.trail.entries → Goes t u log new × AddsLocal log new
tidied_step sources law ends t u step log new well made start first epoch is some holds =
    let n : IsTidying step × Applies (net_of t.graph) step = next_applies (net_of t.graph) step made.0 in
    let falls : work (stepped (net_of t.graph) step) < work (net_of t.graph) = ends (net_of t.graph) step well made.0 in (
      goes_one sources t u step [] log new well (record { applies = n.1; grows = tidying_grows (net_of t.graph) step n.0; justified = tidying_justified (net_of t.graph) step n.0 }) (tidying_removes step n.0) (omega (arith, falls)) made.1.0 is start first epoch
          (λ k le.
          let r : (0 < t.room.steps) × (work (stepped (net_of t.graph) step) + k ≤ t.room.steps - 1) = law (net_of t.graph) step k t.room.steps well made.0 le in
          let w : work (net_of u.graph) ≡ work (stepped (net_of t.graph) step) = ap work made.1.0 in
          let here : work (stepped (net_of t.graph) step) + k ≤ u.room.steps = room_on t.room u.room step (work (stepped (net_of t.graph) step)) k made.1.1.1.1 r.1 in
          omega (arith, here, w))
          (tallies_one t u (record_of.Step step []) log new is some (ap (λ (r : Room). r.steps) made.1.1.1.1 ∙ room_steps t.room step) holds)
          made.1.1.1.1,
      local_one step [] log new n.0 is,
    )

-- FIXING
pub fixed_step :
    StepsKeepSources → RoomForFixes → FixesEnd → (t u : Tried) (fault : Fault) (tree : List Item) (log new : List Record) → IsWellFormed (net_of t.graph) → HasFreePin (net_of t.graph) fault → AreAccepted (net_of t.graph) fault tree
    → net_of u.graph ≡ fixed (net_of t.graph) fault → u.room ≡ room_after t.room (Fix fault.gate fault.position fault.value) → start_of u ≡ start_of t → u.first ≡ t.first → u.graph.epoch ≡ t.graph.epoch
    → new ≡ log ++ record_of.Step (Fix fault.gate fault.position fault.value) tree ∷ [] → work (net_of t.graph) ≤ t.room.steps → HoldsOn t.graph u.graph t.trail.entries u.trail.entries → Goes t u log new
fixed_step sources law ends t u fault tree log new well pin accepted net room start first' epoch is fits holds =
    let step : Step = Fix fault.gate fault.position fault.value in
    let applies : Applies (net_of t.graph) step = fix_applies (net_of t.graph) fault well pin in
    let first : (0 < t.room.steps) × (work (stepped (net_of t.graph) step) + 0 ≤ t.room.steps - 1) = law (net_of t.graph) step pin.0 0 t.room.steps well applies pin.1.0 pin.1.1 (omega (arith, fits)) in
    let one : nat_lt 1 pin.0 ≡ true = lt-ltb 1 pin.0 pin.1.1 in
    let less : work (stepped (net_of t.graph) step) + 1 ≤ work (net_of t.graph) = rw one at (ends (net_of t.graph) step pin.0 well applies pin.1.0) in
    goes_one sources t u step tree log new well (record { applies = applies; grows = tt; justified = accepted }) tt less net is start first' epoch
    (λ k le.
    let r : (0 < t.room.steps) × (work (stepped (net_of t.graph) step) + k ≤ t.room.steps - 1) = law (net_of t.graph) step pin.0 k t.room.steps well applies pin.1.0 pin.1.1 le in
    let w : work (net_of u.graph) ≡ work (stepped (net_of t.graph) step) = ap work net in
    let here : work (stepped (net_of t.graph) step) + k ≤ u.room.steps = room_on t.room u.room step (work (stepped (net_of t.graph) step)) k room r.1 in
    omega (arith, here, w))
    (tallies_one t u (record_of.Step step tree) log new is first.0 (ap (λ (r : Room). r.steps) room ∙ room_steps t.room step) holds)
    room

pub fix_refused : RoomForFixes → (t : Tried) (fault : Fault) (why : EditRefusal) → IsWellFormed (net_of t.graph) → HasFreePin (net_of t.graph) fault → work (net_of t.graph) ≤ t.room.steps
    → IsAnswer (net_of t.graph) t.room (Fix fault.gate fault.position fault.value) (Some why) → ⊥
fix_refused law t fault why well pin le answer =
    let step : Step = Fix fault.gate fault.position fault.value in
    let applies : Applies (net_of t.graph) step = fix_applies (net_of t.graph) fault well pin in
    let r : (0 < t.room.steps) × (work (stepped (net_of t.graph) step) + 0 ≤ t.room.steps - 1) = law (net_of t.graph) step pin.0 0 t.room.steps well applies pin.1.0 pin.1.1 (omega (arith, le)) in
    let none : refusal_of (net_of t.graph) t.room step answer.cyclic ≡ None = fix_made (net_of t.graph) t.room fault.gate fault.position fault.value answer.cyclic applies r.0 in
    let e : ◌≡◌ {A = Option EditRefusal} (Some why) None = answer.is ∙ none in cc
