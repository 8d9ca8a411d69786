-- Going on inside a trial, step by step.
use Rattle.std.proofs.Common.{◌≡◌, ℕ, ◌+◌, ◌-◌, ◌<◌, ◌≤◌, inl, inr, Bool, true, false, not, Option, Some, None, List, [], ◌∷◌, ◌++◌, length, refl, sym, ◌∙◌, ap, subst, append_assoc, arith}
use Rattle.std.specs.Prelude.{slice_get, Err, IfOk, Ok, OnOk, Result, nat_lt, ◌&&◌}
use Rattle.std.specs.Option.{option_map}
use Rattle.std.proofs.lemmas.Bool.{cases_lt, ltb-true}
use Rattle.std.proofs.lemmas.List.{append-nil, length-append}
use Rattle.rm_base.specs.Numbers.{numbers_of}
use Rattle.rm_base.specs.declared.numbers.Fault.{Fault}
use Rattle.rm_base.specs.declared.numbers.NodeId.{NodeId}
use Rattle.gate_net.proofs.Public.{node_at-other}
use Rattle.gate_net.specs.Edits.{IsLeastFree, IsSameBut, last_pin, with_pin}
use Rattle.gate_net.specs.Net.{Net, drivers_of, gate_count, IsGate, IsWellFormed, node_at, Reads, wire_count}
use Rattle.gate_net.specs.Values.{HasPin}
use Rattle.gate_graph.specs.Changes.{Edits}
use Rattle.gate_graph.specs.Circuit.{Circuit, net_of}
use Rattle.refutation.specs.Branches.{AreAccepted}
use Rattle.refutation.specs.declared.items.Item.{Item}
use Rattle.recursive_learning.specs.Serving.{IsServing}
use Rattle.wire_edit.proofs.Public.{fix_applies, gate_is, junction_gate, room_steps}
use Rattle.wire_edit.specs.declared.steps.Step.{Step}
use Rattle.wire_edit.specs.declared.steps.Step.TheVariants.{Add, Fix, NewNot}
use Rattle.wire_edit.specs.declared.refusal.EditRefusal.TheVariants.{Full}
use Rattle.wire_edit.specs.declared.room.Room.{Room}
use Rattle.wire_edit.specs.Changes.{new_not}
use Rattle.wire_edit.specs.Edited.{edit_of}
use Rattle.wire_edit.specs.Tests.{control_of}
use Rattle.wire_edit.specs.Steps.{Applies, stepped}
use Rattle.wire_edit.specs.Refusals.{fault_of, has_room, live_count, ceiling, or_else, room_after, unless, IsAnswer}
use Rattle.wire_edit.specs.Removals.{HasFreePin}
use Rattle.wire_edit.specs.Sizes.{AddedIsLast}
use Rattle.wire_edit.specs.Laws.{AnswersApply}
use Rattle.wire_edit.specs.Tried.{Tried}
use Rattle.wire_edit.specs.Work.{work, RoomForAdding, RoomForFixes}
use Rattle.journal_text.specs.declared.record.Record.{Record}
use Rattle.journal_text.specs.declared.record.Record.TheVariants as record_of
use Rattle.journal_text.specs.Accepted.{IsAcceptedStep}
use Rattle.journal_text.proofs.Public.{accepted_then}
use Rattle.changed_nodes.specs.Changing.{IsUnlisted}
use Rattle.merging.specs.Inner.Going.{TouchesOn}
use Rattle.merging.specs.Inner.Going.{Follows, Goes, Logs, Stays}
use Rattle.merging.specs.declared.space.Space.{Space}
use Rattle.changed_nodes.proofs.Public.{unlisted_append}
use Rattle.recorded_removals.proofs.Public.{add_gates, fix_gates, new_not_gates}
use Rattle.recorded_removals.specs.Going.{Goes as IsTidiedBy}

-- LISTS OF RECORDS
pub logs_none : (net : Net) (log : List Record) → Logs net net log log
logs_none net log = record { more = []; added = sym (append-nil log); accepted = refl }

pub logs_then : (net mid after : Net) (a b c : List Record) → Logs net mid a b → Logs mid after b c → Logs net after a c
logs_then net mid after a b c l m = record {
  more = l.more ++ m.more;
  added = m.added ∙ ap (λ (xs : List Record). xs ++ m.more) l.added ∙ append_assoc a l.more m.more;
  accepted = accepted_then net mid after l.more m.more l.accepted m.accepted;
}

logs_one : (net after : Net) (step : Step) (tree : List Item) (log new : List Record) → IsAcceptedStep net step tree → after ≡ stepped net step → new ≡ log ++ record_of.Step step tree ∷ [] → Logs net after log new
logs_one net after step tree log new accepted to is = record { more = record_of.Step step tree ∷ []; added = is; accepted = (accepted, to) }

-- STAYING
pub stays_none : (t : Tried) → Stays t t
stays_none t = record { start = refl; first = refl; holds = refl }

pub stays_then : (t u v : Tried) → Stays t u → Stays u v → Stays t v
stays_then t u v a b = record { start = b.start ∙ a.start; first = b.first ∙ a.first; holds = omega (arith, a.holds, b.holds) }

-- TOUCHING
pub touches_by : (net after : Net) (nodes old new : List NodeId) → IsSameBut net after (numbers_of nodes) → new ≡ old ++ nodes → TouchesOn net after old new
touches_by net after nodes old new same is before first x u =
    let split = unlisted_append old nodes x (subst (λ (ns : List NodeId). IsUnlisted (numbers_of ns) x) is u) in
    same x split.1 ∙ first x split.0

pub follows_none : (s : Space) → IsServing (net_of s.trial.graph) s.refuter → Follows s s
follows_none s serves = record { stays = stays_none s.trial; serves = serves; touches = λ before h. h }

pub follows_then : (s t u : Space) → Follows s t → Follows t u → Follows s u
follows_then s t u a b = record { stays = stays_then s.trial t.trial u.trial a.stays b.stays; serves = b.serves; touches = λ before h. b.touches before (a.touches before h) }

-- the refuter alone changed
pub follows_refuter : (s t : Space) → t.trial ≡ s.trial → t.touched.items ≡ s.touched.items → IsServing (net_of s.trial.graph) t.refuter → Follows s t
follows_refuter s t trial touched serves = record {
  stays = subst (λ (u : Tried). Stays s.trial u) (sym trial) (stays_none s.trial);
  serves = subst (λ (u : Tried). IsServing (net_of u.graph) t.refuter) (sym trial) serves;
  touches = λ before h. subst (λ (u : Tried). IsSameBut before (net_of u.graph) (numbers_of t.touched.items)) (sym trial) (subst (λ (ns : List NodeId). IsSameBut before (net_of s.trial.graph) (numbers_of ns)) (sym touched) h);
}

-- these nodes were followed after steps in the trial
pub follows_steps : (s t : Space) (u : Tried) (nodes : List NodeId) → t.trial ≡ u → Stays s.trial u → IsSameBut (net_of s.trial.graph) (net_of u.graph) (numbers_of nodes) → IsServing (net_of t.trial.graph) t.refuter → t.touched.items ≡ s.touched.items ++ nodes → Follows s t
follows_steps s t u nodes trial stays same serves is = record {
  stays = subst (λ (v : Tried). Stays s.trial v) (sym trial) stays;
  serves = serves;
  touches = touches_by (net_of s.trial.graph) (net_of t.trial.graph) nodes s.touched.items t.touched.items (subst (λ (v : Tried). IsSameBut (net_of s.trial.graph) (net_of v.graph) (numbers_of nodes)) (sym trial) same) is;
}

-- LAWS OF RESULTS
pub on_ok : {A E : Type 0} (r : Result A E) (P Q : Type 0) → (P → Q) → OnOk r P → OnOk r Q
on_ok (Ok a) P Q f p = f p
on_ok (Err e) P Q f p = tt

pub if_ok : {A E : Type 0} (r : Result A E) (P Q : A → Type 0) → ((a : A) → P a → Q a) → IfOk r P → IfOk r Q
if_ok (Ok a) P Q f p = f a p
if_ok (Err e) P Q f p = tt

-- GOING ON
pub goes_none : (t : Tried) (log : List Record) → Goes 0 0 t t log log
goes_none t log = record { logs = logs_none (net_of t.graph) log; made = omega arith; spent = refl; room = λ k le. omega (arith, le) }

pub goes_then : (g e h f : ℕ) (t u v : Tried) (a b c : List Record) → Goes g e t u a b → Goes h f u v b c → Goes (g + h) (e + f) t v a c
goes_then g e h f t u v a b c one two = record {
  logs = logs_then (net_of t.graph) (net_of u.graph) (net_of v.graph) a b c one.logs two.logs;
  made = omega (arith, one.made, two.made);
  spent = two.spent ∙ one.spent;
  room = λ k le. two.room k (one.room (f + k) (omega (arith, le)));
}

pub goes_more : (g e h f : ℕ) (t u : Tried) (a b : List Record) → g ≤ h → e ≤ f → Goes g e t u a b → Goes h f t u a b
goes_more g e h f t u a b gates extra one = record { logs = one.logs; made = omega (arith, gates, one.made); spent = one.spent; room = λ k le. one.room k (omega (arith, extra, le)) }

-- a step was made and recorded
goes_one :
    (g e : ℕ) (t u : Tried) (step : Step) (tree : List Item) (log new : List Record) → gate_count (stepped (net_of t.graph) step) ≤ gate_count (net_of t.graph) + g → IsAcceptedStep (net_of t.graph) step tree → net_of u.graph ≡ stepped (net_of t.graph) step → new ≡ log ++ record_of.Step step tree ∷ []
    → 0 < t.room.steps → u.room ≡ room_after t.room step
    → ((k : ℕ) → work (net_of t.graph) + (e + k) ≤ t.room.steps → work (stepped (net_of t.graph) step) + k ≤ t.room.steps - 1) → Goes g e t u log new
goes_one g e t u step tree log new made accepted net is some room work_on =
    let gate_e : gate_count (net_of u.graph) ≡ gate_count (stepped (net_of t.graph) step) = ap gate_count net in
    let n : length new ≡ length log + 1 = ap (λ (rs : List Record). length rs) is ∙ length-append log (record_of.Step step tree ∷ []) in
    let steps : u.room.steps ≡ t.room.steps - 1 = ap (λ (r : Room). r.steps) room ∙ room_steps t.room step in
    record {
      logs = logs_one (net_of t.graph) (net_of u.graph) step tree log new accepted net is;
      made = omega (arith, made, gate_e);
      spent = omega (arith, n, some, steps);
      room = λ k le.
          let r : work (stepped (net_of t.graph) step) + k ≤ t.room.steps - 1 = work_on k le in
          let w : work (net_of u.graph) ≡ work (stepped (net_of t.graph) step) = ap work net in
          omega (arith, r, w, steps);
    }

-- WHAT AN ANSWER TELLS
unless_none : (b : Bool) (other : Bool) (net : Net) (step : Step) → or_else (fault_of net step other) (unless b Full) ≡ None → b ≡ true
unless_none true other net step e = refl
unless_none false other net step e = at (fault_of net step other) e
  where
    at : (o : Option _) → or_else o (Some Full) ≡ None → false ≡ true
    at None e = cc
    at (Some f) e = cc

pub answered_room : (net : Net) (room : Room) (step : Step) → IsAnswer net room step None → has_room net room step ≡ true
answered_room net room step answer = unless_none (has_room net room step) answer.cyclic net step (sym answer.is)

both_left : (a b : Bool) → (a && b) ≡ true → a ≡ true
both_left true b e = refl
both_left false b e = cc

both_right : (a b : Bool) → (a && b) ≡ true → b ≡ true
both_right true b e = e
both_right false b e = cc

-- TIDYING
pub tidied_goes : (t u : Tried) (log new : List Record) → IsTidiedBy t u log new → Goes 0 0 t u log new
tidied_goes t u log new g = record {
  logs = record { more = g.logs.more; added = g.logs.added; accepted = g.logs.accepted };
  made = omega (arith, g.no_larger.gates);
  spent = g.tallies.spent;
  room = λ k le. g.room k (omega (arith, le));
}

pub tidied_stays : (t u : Tried) (log new : List Record) → IsTidiedBy t u log new → Stays t u
tidied_stays t u log new g = record { start = g.start; first = g.first; holds = g.tallies.holds }

-- WHAT IS READ OF A GRAPH
pub free_at : (v w : Circuit) (fault : Fault) (found : Option NodeId) (driver : NodeId) → option_map (λ (n : NodeId). n.0) found ≡ slice_get (drivers_of (net_of v) fault.gate.0) fault.position → v ≡ w → found ≡ Some driver → 1 < driver.0 → HasFreePin (net_of w) fault
free_at v w fault found driver tells same is more =
    let reads : slice_get (drivers_of (net_of v) fault.gate.0) fault.position ≡ Some driver.0 = sym tells ∙ ap (option_map (λ (n : NodeId). n.0)) is in
    (driver.0, (subst (λ (u : Circuit). slice_get (drivers_of (net_of u) fault.gate.0) fault.position ≡ Some driver.0) same reads, more))

-- FIXING
pub fixed_step :
    RoomForFixes → (t u : Tried) (fault : Fault) (tree : List Item) (log new : List Record) → IsWellFormed (net_of t.graph) → HasFreePin (net_of t.graph) fault → AreAccepted (net_of t.graph) fault tree
    → IsAnswer (net_of t.graph) t.room (Fix fault.gate fault.position fault.value) None → net_of u.graph ≡ stepped (net_of t.graph) (Fix fault.gate fault.position fault.value) → u.room ≡ room_after t.room (Fix fault.gate fault.position fault.value)
    → new ≡ log ++ record_of.Step (Fix fault.gate fault.position fault.value) tree ∷ [] → Goes 0 0 t u log new
fixed_step law t u fault tree log new well pin accepted answer net room is =
    let step : Step = Fix fault.gate fault.position fault.value in
    let applies : Applies (net_of t.graph) step = fix_applies (net_of t.graph) fault well pin in
    let some : 0 < t.room.steps = ltb-true 0 t.room.steps (answered_room (net_of t.graph) t.room step answer) in
    let fewer : gate_count (stepped (net_of t.graph) step) ≤ gate_count (net_of t.graph) = fix_gates (net_of t.graph) fault.gate fault.position fault.value in
    goes_one 0 0 t u step tree log new (omega (arith, fewer)) (record { applies = applies; grows = tt; justified = accepted }) net is some room
    (λ k le. (law (net_of t.graph) step pin.0 k t.room.steps well applies pin.1.0 pin.1.1 (omega (arith, le))).1)

pub fix_changes : (net after : Net) (fault : Fault) → after ≡ stepped net (Fix fault.gate fault.position fault.value) → IsSameBut net after (numbers_of (fault.gate ∷ []))
fix_changes net after fault is x none =
    ap (λ (n : Net). node_at n x) is ∙ node_at-other net fault.gate.0 _ x (λ e. none 0 (ap Some (sym e)))

-- ADDING
pub add_changes : (net after : Net) (gate node : NodeId) → after ≡ stepped net (Add gate node) → IsSameBut net after (numbers_of (gate ∷ []))
add_changes net after gate node is x none =
    ap (λ (n : Net). node_at n x) is ∙ node_at-other net gate.0 _ x (λ e. none 0 (ap Some (sym e)))

-- the new pin is there
pub added_pin : AddedIsLast → AnswersApply → (t : Tried) (after : Net) (gate node : NodeId) (position : ℕ) (value : Bool) → IsAnswer (net_of t.graph) t.room (Add gate node) None → after ≡ stepped (net_of t.graph) (Add gate node) → position ≡ length (drivers_of (net_of t.graph) gate.0)
    → HasPin after (record { gate = gate; position = position; value = value })
added_pin last apply_law t after gate node position value answer is at =
    let applies : Applies (net_of t.graph) (Add gate node) = apply_law (net_of t.graph) t.room (Add gate node) answer in
    let k : IsGate (net_of t.graph) gate.0 = gate_is (net_of t.graph) gate.0 (junction_gate (net_of t.graph) gate.0 applies.0) in
    let reads : Reads (with_pin (net_of t.graph) gate.0 node.0) gate.0 (length (drivers_of (net_of t.graph) gate.0)) node.0 = last (net_of t.graph) gate.0 node.0 (k.0, k.1.0) in
    (node.0, subst (λ (n : Net). Reads n gate.0 position node.0) (sym is) (subst (λ (p : ℕ). Reads (with_pin (net_of t.graph) gate.0 node.0) gate.0 p node.0) (sym at) reads))

pub added_step :
    RoomForAdding → AnswersApply → (t u : Tried) (gate node : NodeId) (control : Bool) (fault : Fault) (tree : List Item) (log new : List Record) → IsWellFormed (net_of t.graph) → control_of (net_of t.graph) gate.0 ≡ Some control
    → IsAnswer (net_of t.graph) t.room (Add gate node) None → net_of u.graph ≡ stepped (net_of t.graph) (Add gate node) → u.room ≡ room_after t.room (Add gate node) → fault ≡ last_pin (net_of t.graph) gate.0 (not control)
    → AreAccepted (net_of u.graph) fault tree → new ≡ log ++ record_of.Step (Add gate node) tree ∷ [] → Goes 0 4 t u log new
added_step law apply_law t u gate node control fault tree log new well controls answer net room pin accepted is =
    let step : Step = Add gate node in
    let applies : Applies (net_of t.graph) step = apply_law (net_of t.graph) t.room step answer in
    let there : has_room (net_of t.graph) t.room step ≡ true = answered_room (net_of t.graph) t.room step answer in
    let some : 0 < t.room.steps = ltb-true 0 t.room.steps (both_left (nat_lt 0 t.room.steps) _ there) in
    let grows : wire_count (net_of t.graph) < ceiling = ltb-true (wire_count (net_of t.graph)) ceiling (both_right (nat_lt 0 t.room.pins) _ (both_right (nat_lt 0 t.room.steps) _ there)) in
    let a : AreAccepted (stepped (net_of t.graph) step) fault tree = subst (λ (n : Net). AreAccepted n fault tree) net accepted in
    let b : AreAccepted (stepped (net_of t.graph) step) (last_pin (net_of t.graph) gate.0 (not control)) tree = subst (λ (f : Fault). AreAccepted (stepped (net_of t.graph) step) f tree) pin a in
    let fewer : gate_count (stepped (net_of t.graph) step) ≤ gate_count (net_of t.graph) = add_gates (net_of t.graph) gate node in
    goes_one 0 4 t u step tree log new (omega (arith, fewer)) (record { applies = applies; grows = grows; justified = (control, (controls, b)) }) net is some room
    (λ k le. (law (net_of t.graph) step k t.room.steps well applies tt (omega (arith, le))).1)

-- A NEW NOT
least_one : (net : Net) (x y : ℕ) → IsLeastFree net x → IsLeastFree net y → x ≡ y
least_one net x y a b = elim (cases_lt x y) [
  | inl less ↦ absurd (b.least x less a.free)
  | inr more ↦ elim (cases_lt y x) [ inl less ↦ absurd (a.least y less b.free) | inr less ↦ omega (arith, more, less) ]
]

pub not_changes : (v w : Circuit) (node number : NodeId) → Edits v (edit_of (new_not node.0)) w → IsLeastFree (net_of v) number.0 → IsSameBut (net_of v) (net_of w) (numbers_of (number ∷ []))
not_changes v w node number edits least x none = edits.0.1.0.differs.others x (λ e. none 0 (ap Some (least_one (net_of v) number.0 edits.0.0 least edits.0.1.0.number ∙ sym e)))

pub not_step :
    RoomForAdding → AnswersApply → (t u : Tried) (node : NodeId) (log new : List Record) → IsWellFormed (net_of t.graph) → IsAnswer (net_of t.graph) t.room (NewNot node) None → net_of u.graph ≡ stepped (net_of t.graph) (NewNot node)
    → u.room ≡ room_after t.room (NewNot node) → new ≡ log ++ record_of.Step (NewNot node) [] ∷ [] → Goes 1 5 t u log new
not_step law apply_law t u node log new well answer net room is =
    let step : Step = NewNot node in
    let applies : Applies (net_of t.graph) step = apply_law (net_of t.graph) t.room step answer in
    let there : has_room (net_of t.graph) t.room step ≡ true = answered_room (net_of t.graph) t.room step answer in
    let some : 0 < t.room.steps = ltb-true 0 t.room.steps (both_left (nat_lt 0 t.room.steps) _ there) in
    let grows : live_count (net_of t.graph) < ceiling = ltb-true (live_count (net_of t.graph)) ceiling (both_right (nat_lt 0 t.room.nodes) _ (both_right (nat_lt 0 t.room.pins) _ (both_right (nat_lt 0 t.room.steps) _ there))) in
    goes_one 1 5 t u step [] log new (new_not_gates (net_of t.graph) node) (record { applies = applies; grows = grows; justified = refl }) net is some room
    (λ k le. (law (net_of t.graph) step k t.room.steps well applies tt (omega (arith, le))).1)
