-- Room and sizes while a wire is added, and what its pin's fault comes to.
use Rattle.std.proofs.Common.{◌≡◌, ℕ, ◌+◌, ◌-◌, ◌*◌, ◌<◌, ◌≤◌, Bool, true, false, not, Option, Some, None, List, [], ◌∷◌, ◌++◌, refl, sym, ◌∙◌, ap, subst, arith}
use Rattle.std.specs.Prelude.{if◌then◌else◌}
use Rattle.rm_base.specs.declared.numbers.Fault.{Fault}
use Rattle.rm_base.specs.declared.numbers.NodeId.{NodeId}
use Rattle.gate_net.specs.Net.{Net, drivers_of, IsLive, IsGate, IsWellFormed, wire_count, source_count, gate_count}
use Rattle.gate_net.specs.Values.{HasPin}
use Rattle.gate_net.specs.Edits.{with_pin, last_pin}
use Rattle.gate_graph.specs.Circuit.{net_of}
use Rattle.refutation.specs.Branches.{AreAccepted}
use Rattle.refutation.specs.declared.items.Item.{Item}
use Rattle.wire_edit.proofs.Public.{gate_is, is_live_there, junction_gate, live_bound, room_on, total_with, wires_grow}
use Rattle.wire_edit.specs.declared.steps.Step.TheVariants.{Add, NewNot}
use Rattle.wire_edit.specs.declared.refusal.EditRefusal.{EditRefusal}
use Rattle.wire_edit.specs.Tests.{control_of, live_in}
use Rattle.wire_edit.specs.Steps.{Applies, stepped}
use Rattle.wire_edit.specs.Refusals.{refusal_of, room_after, IsAnswer, live_count, ceiling}
use Rattle.wire_edit.specs.Order.{node}
use Rattle.wire_edit.specs.Tried.{Tried}
use Rattle.wire_edit.specs.Work.{work, RoomForAdding, WorkIsBounded}
use Rattle.candidate_wires.specs.declared.candidate.Candidate.{Candidate}
use Rattle.candidate_wires.specs.Gains.{net_for, wire_for, with_candidate}
use Rattle.journal_text.specs.declared.record.Record.{Record}
use Rattle.journal_text.specs.declared.record.Record.TheVariants as record_of
use Rattle.journal_text.specs.Accepted.{IsAcceptedStep}
use Rattle.journal_text.specs.Runs.{AcceptedTo}
use Rattle.refutation.specs.Detected.{HasOpenSet}
use Rattle.rar_loop.specs.Inner.Swept.{IsLooked}
use Rattle.rar_loop.specs.Trying.{IsReadyToAdd}
use Rattle.rar_loop.specs.Inner.Trying.{MayAdd, IsNewPinOpen, HasAdded, adding_records, not_records}
use Rattle.rar_loop.proofs.NewNots.{live_more}
use Rattle.rar_loop.proofs.Adding.{add_applies, add_made, none_refused, control_same, control_is, new_pin_reads, last_same, node_of}

-- ROOM
pub ready_after_not : RoomForAdding → (t u : Tried) (x : NodeId) → IsWellFormed (net_of t.graph) → IsLive (net_of t.graph) x.0 → IsReadyToAdd t 16 → net_of u.graph ≡ stepped (net_of t.graph) (NewNot x) → u.room ≡ room_after t.room (NewNot x) → IsReadyToAdd u 11
ready_after_not law t u x well live ready net room =
    let applies : Applies (net_of t.graph) (NewNot x) = is_live_there (net_of t.graph) x.0 live in
    let r : (0 < t.room.steps) × (work (stepped (net_of t.graph) (NewNot x)) + 11 ≤ t.room.steps - 1) = law (net_of t.graph) (NewNot x) 11 t.room.steps well applies tt (omega (arith, ready.steps)) in
    let w : work (net_of u.graph) ≡ work (stepped (net_of t.graph) (NewNot x)) = ap work net in
    let here : work (stepped (net_of t.graph) (NewNot x)) + 11 ≤ u.room.steps = room_on t.room u.room (NewNot x) (work (stepped (net_of t.graph) (NewNot x))) 11 room r.1 in
    let g : wire_count (stepped (net_of t.graph) (NewNot x)) ≤ wire_count (net_of t.graph) + 1 = wires_grow (net_of t.graph) (NewNot x) well applies in
    let gw : wire_count (net_of u.graph) ≡ wire_count (stepped (net_of t.graph) (NewNot x)) = ap wire_count net in
    let l : live_count (net_of u.graph) ≡ live_count (net_of t.graph) + 1 = ap live_count net ∙ live_more (net_of t.graph) x.0 in
    record { steps = omega (arith, here, w); wires = omega (arith, g, gw, ready.wires); nodes = omega (arith, l, ready.nodes) }

live_same_count : (net : Net) (gate d : ℕ) → IsLive net gate → live_count (with_pin net gate d) ≡ live_count net
live_same_count net gate d live =
    let e : live_count (with_pin net gate d) + 1 ≡ live_count net + 1 = total_with live_in net gate (drivers_of net gate ++ d ∷ []) (record { kind = live.0; drivers = live.1.0 }) live.1.1 in
    omega (arith, e)

pub ready_after_add : RoomForAdding → (t u : Tried) (gate x : NodeId) → IsWellFormed (net_of t.graph) → Applies (net_of t.graph) (Add gate x) → IsReadyToAdd t 11 → net_of u.graph ≡ stepped (net_of t.graph) (Add gate x) → u.room ≡ room_after t.room (Add gate x) → IsReadyToAdd u 7
ready_after_add law t u gate x well applies ready net room =
    let r : (0 < t.room.steps) × (work (stepped (net_of t.graph) (Add gate x)) + 7 ≤ t.room.steps - 1) = law (net_of t.graph) (Add gate x) 7 t.room.steps well applies tt (omega (arith, ready.steps)) in
    let w : work (net_of u.graph) ≡ work (stepped (net_of t.graph) (Add gate x)) = ap work net in
    let here : work (stepped (net_of t.graph) (Add gate x)) + 7 ≤ u.room.steps = room_on t.room u.room (Add gate x) (work (stepped (net_of t.graph) (Add gate x))) 7 room r.1 in
    let g : wire_count (stepped (net_of t.graph) (Add gate x)) ≤ wire_count (net_of t.graph) + 1 = wires_grow (net_of t.graph) (Add gate x) well applies in
    let gw : wire_count (net_of u.graph) ≡ wire_count (stepped (net_of t.graph) (Add gate x)) = ap wire_count net in
    let k : IsGate (net_of t.graph) gate.0 = gate_is (net_of t.graph) gate.0 (junction_gate (net_of t.graph) gate.0 applies.0) in
    let l : live_count (net_of u.graph) ≡ live_count (net_of t.graph) = ap live_count net ∙ live_same_count (net_of t.graph) gate.0 x.0 (k.0, k.1.0) in
    record { steps = omega (arith, here, w); wires = omega (arith, g, gw, ready.wires); nodes = omega (arith, l, ready.nodes) }

pub add_refused : (t : Tried) (gate x : NodeId) (why : EditRefusal) → Applies (net_of t.graph) (Add gate x) → IsReadyToAdd t 11 → 1 ≤ t.room.pins → IsAnswer (net_of t.graph) t.room (Add gate x) (Some why) → ⊥
add_refused t gate x why applies ready pins answer =
    none_refused (refusal_of (net_of t.graph) t.room (Add gate x) answer.cyclic) why answer.is
    (add_made (net_of t.graph) t.room gate x answer.cyclic applies answer.tells (omega (arith, ready.steps)) (omega (arith, pins)) (omega (arith, ready.wires)))

-- THE WIRE
pub add_here : (net wired : Net) (c : Candidate) (n : NodeId) → IsWellFormed net → MayAdd net c → wired ≡ net_for net c → n.0 ≡ wire_for net c → Applies wired (Add c.gate n)
add_here net wired c n well may e1 e2 =
    subst (λ (w : Net). Applies w (Add c.gate n)) (sym e1) (subst (λ (m : NodeId). Applies (net_for net c) (Add c.gate m)) (sym (ap node e2)) (add_applies net c well may))

pub net_added : (net wired after : Net) (c : Candidate) (n : NodeId) → wired ≡ net_for net c → n.0 ≡ wire_for net c → after ≡ stepped wired (Add c.gate n) → after ≡ with_candidate net c
net_added net wired after c n e1 e2 e3 = e3 ∙ ap (λ (w : Net). stepped w (Add c.gate n)) e1 ∙ ap (λ (m : NodeId). stepped (net_for net c) (Add c.gate m)) (ap node e2)

pub fault_is : (net wired : Net) (c : Candidate) (may : MayAdd net c) (fault : Fault) → wired ≡ net_for net c
    → ((control : Bool) → control_of wired c.gate.0 ≡ Some control → fault ≡ last_pin wired c.gate.0 (not control)) → fault ≡ last_pin net c.gate.0 (not may.1.control)
fault_is net wired c may fault e h =
    h may.1.control (ap (λ (w : Net). control_of w c.gate.0) e ∙ control_same net c may ∙ control_is net c may) ∙ ap (λ (w : Net). last_pin w c.gate.0 (not may.1.control)) e ∙ last_same net c may (not may.1.control)

pub fault_pin : (net after : Net) (c : Candidate) (may : MayAdd net c) (fault : Fault) → after ≡ with_candidate net c → fault ≡ last_pin net c.gate.0 (not may.1.control) → HasPin after fault
fault_pin net after c may fault e is =
    subst (λ (w : Net). HasPin w fault) (sym e) (subst (λ (f : Fault). HasPin (with_candidate net c) f) (sym is) (wire_for net c, new_pin_reads net c may))

pub new_pin_open : (net after : Net) (c : Candidate) (may : MayAdd net c) (fault : Fault) (depth : ℕ) (o : Option (List Item)) → after ≡ with_candidate net c → fault ≡ last_pin net c.gate.0 (not may.1.control) → o ≡ None → IsLooked after fault depth o → IsNewPinOpen net c depth
new_pin_open net after c may fault depth o e is none looked =
    let a : HasOpenSet after fault depth = subst (λ (q : Option (List Item)). IsLooked after fault depth q) none looked in
    let b : HasOpenSet (with_candidate net c) fault depth = subst (λ (w : Net). HasOpenSet w fault depth) e a in
    (may.1.control, (control_is net c may, subst (λ (f : Fault). HasOpenSet (with_candidate net c) f depth) is b))

accepted_adding : (net : Net) (c : Candidate) (tree : List Item) → IsWellFormed net → (may : MayAdd net c) → live_count net < ceiling → wire_count (net_for net c) < ceiling → AreAccepted (with_candidate net c) (last_pin net c.gate.0 (not may.1.control)) tree → AcceptedTo net (adding_records net c tree) (with_candidate net c)
accepted_adding net c tree well may nodes wires accepted = at c.fresh one
  where
    one : IsAcceptedStep (net_for net c) (Add c.gate (node (wire_for net c))) tree
    one = record {
      applies = add_applies net c well may;
      grows = wires;
      justified = (may.1.control, (control_same net c may ∙ control_is net c may, subst (λ (f : Fault). AreAccepted (with_candidate net c) f tree) (sym (last_same net c may (not may.1.control))) accepted));
    }

    at : (fresh : Bool) → IsAcceptedStep (if fresh then stepped net (NewNot c.node) else net) (Add c.gate (node (wire_for net c))) tree
        → AcceptedTo net ((if fresh then record_of.Step (NewNot c.node) [] ∷ [] else []) ++ record_of.Step (Add c.gate (node (wire_for net c))) tree ∷ []) (stepped (if fresh then stepped net (NewNot c.node) else net) (Add c.gate (node (wire_for net c))))
    at true a = (record { applies = is_live_there net c.node.0 (node_of net c may); grows = nodes; justified = refl }, (a, refl))
    at false a = (a, refl)

pub has_added : (net after : Net) (c : Candidate) (may : MayAdd net c) (n : NodeId) (fault : Fault) (depth : ℕ) (o : Option (List Item)) (tree : List Item) (log records : List Record) → IsWellFormed net → live_count net < ceiling → wire_count (net_for net c) < ceiling
    → after ≡ with_candidate net c → fault ≡ last_pin net c.gate.0 (not may.1.control) → o ≡ Some tree → IsLooked after fault depth o → n.0 ≡ wire_for net c → log ≡ not_records c
    → records ≡ log ++ record_of.Step (Add c.gate n) tree ∷ [] → HasAdded net c depth records true
has_added net after c may n fault depth o tree log records well nodes wires e is some looked wire notes are =
    let a : AreAccepted after fault tree = subst (λ (q : Option (List Item)). IsLooked after fault depth q) some looked in
    let b : AreAccepted (with_candidate net c) fault tree = subst (λ (w : Net). AreAccepted w fault tree) e a in
    let d : AreAccepted (with_candidate net c) (last_pin net c.gate.0 (not may.1.control)) tree = subst (λ (f : Fault). AreAccepted (with_candidate net c) f tree) is b in
    let same : records ≡ adding_records net c tree = are ∙ ap (λ (xs : List Record). xs ++ record_of.Step (Add c.gate n) tree ∷ []) notes ∙ ap (λ (m : NodeId). not_records c ++ record_of.Step (Add c.gate m) tree ∷ []) (ap node wire) in
    (tree, (same, subst (λ (rs : List Record). AcceptedTo net rs (with_candidate net c)) (sym same) (accepted_adding net c tree well may nodes wires d)))

pub ready_first : (t : Tried) (net : Net) → net_of t.graph ≡ net → WorkIsBounded → IsWellFormed net → 2 * wire_count net + 2 * (2 + source_count net + gate_count net) + 16 ≤ t.room.steps → wire_count net + (2 + source_count net + gate_count net) ≤ 1048576 → IsReadyToAdd t 16
ready_first t net e law well steps few =
    let w : work (net_of t.graph) ≡ work net = ap work e in
    let b : work net ≤ 2 * wire_count net + 2 * live_count net = law net in
    let wc : wire_count (net_of t.graph) ≡ wire_count net = ap wire_count e in
    let lc : live_count (net_of t.graph) ≡ live_count net = ap live_count e in
    let l : live_count net ≤ 2 + (source_count net + gate_count net) = live_bound net well in
    record { steps = omega (arith, w, b, l, steps); wires = omega (arith, wc, few); nodes = omega (arith, lc, l, few) }
