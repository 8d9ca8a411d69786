-- What holds of a trial holds after each step.
use Rattle.std.proofs.Common.{◌≡◌, ℕ, ◌+◌, ◌-◌, ◌<◌, ◌≤◌, Bool, true, false, inl, inr, List, length, refl, sym, ap, subst, arith}
use Rattle.std.specs.Prelude.{nat_lt}
use Rattle.std.proofs.lemmas.Bool.{and_parts, both_ways, cases_lt, false_from_ne_true, ltb-true}
use Rattle.gate_net.specs.Net.{Net, IsWellFormed, wire_count}
use Rattle.gate_graph.specs.Circuit.{Circuit, net_of, free_pins, free_nodes}
use Rattle.gate_graph.specs.Undoing.{LeadOn}
use Rattle.gate_graph.specs.Changes.{CanEdit, Edits, entries_for}
use Rattle.gate_graph.specs.Trail.{Trail}
use Rattle.wire_edit.specs.declared.steps.Step.{Step}
use Rattle.wire_edit.specs.declared.steps.Step.TheVariants.{Add, Fix, NewNot, Const, Same, NoPins, OnePin, Twice, Twin, Dead}
use Rattle.wire_edit.specs.declared.room.Room.{Room}
use Rattle.wire_edit.specs.Tests.{is_gate, is_xor, family_of, constant_at}
use Rattle.wire_edit.specs.Changes.{Change, append, remove, fix, readers, new_not, retire, to_not, changed}
use Rattle.wire_edit.specs.Inner.Changes.{CanChange, pins_added, nodes_added}
use Rattle.wire_edit.specs.Steps.{Applies, other_driver, change_of, stepped}
use Rattle.wire_edit.specs.Refusals.{has_room, room_after, nodes_made}
use Rattle.wire_edit.specs.Work.{pins_made}
use Rattle.wire_edit.specs.Edited.{edit_of}
use Rattle.wire_edit.specs.Inner.Marked.{is_marked, KeepsMarks, IsQuiet, MarksTouched}
use Rattle.wire_edit.specs.Inner.Trials.{IsTrial}
use Rattle.wire_edit.proofs.ConstantCases.{constant_cases, same_cases}
use Rattle.wire_edit.proofs.Conditions.{applies_changes}
use Rattle.wire_edit.proofs.Ordering.{none_rules, rules_none, gate_below}
use Rattle.wire_edit.proofs.Staying.{no_gate_rules, untouched_quiet}
use Rattle.wire_edit.proofs.Editing.{can_edit, edited_net, edited_room}
use Rattle.wire_edit.proofs.Budgets.{pins_gone, wires_budget, length_budget}

-- QUIET
pub quiet_after : (net : Net) (change : Change) (marks next : List Bool) → IsWellFormed net → CanChange net change → IsQuiet net marks → KeepsMarks marks next → MarksTouched net change next → length (changed net change).nodes ≤ length next → IsQuiet (changed net change) next
quiet_after net change marks next well can quiet k touched le x unmarked = elim (cases_lt x (length next)) [
  | inl lt ↦
      let was : is_marked marks x ≡ false = false_from_ne_true (is_marked marks x) (λ e. both_ways (is_marked next x) unmarked (k.kept x e)) in
      rules_none (changed net change) x (untouched_quiet net change well can x (none_rules net x (quiet x was)) (λ t. both_ways (is_marked next x) unmarked (touched x t lt)))
  | inr above ↦
      rules_none (changed net change) x (no_gate_rules (changed net change) x (false_from_ne_true (is_gate (changed net change) x) (λ g.
      let lt : x < length (changed net change).nodes = gate_below (changed net change) x g in omega (arith, lt, above, le))))
]

-- WHAT A STEP TAKES
-- no pin and no node
abbrev AddsNone : Change → Type 0
AddsNone change = (pins_added change ≡ 0) × (nodes_added change ≡ 0)

pub step_pins : (net : Net) (step : Step) → (pins_added (change_of net step) ≡ pins_made step) × (nodes_added (change_of net step) ≡ nodes_made step)
step_pins net (Add gate node) = (refl, refl)
step_pins net (Fix gate position value) = (refl, refl)
step_pins net (NewNot node) = (refl, refl)
step_pins net (Const gate position) = constant_cases AddsNone gate.0 position (other_driver net gate.0 position) (family_of net gate.0) (constant_at net gate.0 position) (refl, refl) (refl, refl) (λ to. (refl, refl))
step_pins net (Same gate position) = same_cases AddsNone gate.0 position (is_xor net gate.0) (refl, refl) (refl, refl)
step_pins net (NoPins gate) = (refl, refl)
step_pins net (OnePin gate) = (refl, refl)
step_pins net (Twice gate) = (refl, refl)
step_pins net (Twin gate other) = (refl, refl)
step_pins net (Dead gate) = (refl, refl)

pub record Takes (room : Room) (step : Step) : Type 0 where
  pub steps : (room_after room step).steps + 1 ≡ room.steps
  pub pins : (room_after room step).pins + pins_made step ≡ room.pins
  pub nodes : (room_after room step).nodes + nodes_made step ≡ room.nodes

one_step : (n : ℕ) → nat_lt 0 n ≡ true → (n - 1) + 1 ≡ n
one_step n e = let lt : 0 < n = ltb-true 0 n e in omega (arith, lt)

only_steps : (room : Room) → nat_lt 0 room.steps ≡ true → ((room.steps - 1) + 1 ≡ room.steps) × ((room.pins + 0 ≡ room.pins) × (room.nodes + 0 ≡ room.nodes))
only_steps room e = (one_step room.steps e, (omega arith, omega arith))

pub step_takes : (net : Net) (room : Room) (step : Step) → has_room net room step ≡ true → Takes room step
step_takes net room (Add gate node) e =
    let a : (nat_lt 0 room.steps ≡ true) × _ = and_parts (nat_lt 0 room.steps) _ e in
    let b : (nat_lt 0 room.pins ≡ true) × _ = and_parts (nat_lt 0 room.pins) _ a.1 in
    record { steps = one_step room.steps a.0; pins = one_step room.pins b.0; nodes = omega arith }
step_takes net room (NewNot node) e =
    let a : (nat_lt 0 room.steps ≡ true) × _ = and_parts (nat_lt 0 room.steps) _ e in
    let b : (nat_lt 0 room.pins ≡ true) × _ = and_parts (nat_lt 0 room.pins) _ a.1 in
    let d : (nat_lt 0 room.nodes ≡ true) × _ = and_parts (nat_lt 0 room.nodes) _ b.1 in
    record { steps = one_step room.steps a.0; pins = one_step room.pins b.0; nodes = one_step room.nodes d.0 }
step_takes net room (Fix gate position value) e = let o : _ × (_ × _) = only_steps room e in record { steps = o.0; pins = o.1.0; nodes = o.1.1 }
step_takes net room (Const gate position) e = let o : _ × (_ × _) = only_steps room e in record { steps = o.0; pins = o.1.0; nodes = o.1.1 }
step_takes net room (Same gate position) e = let o : _ × (_ × _) = only_steps room e in record { steps = o.0; pins = o.1.0; nodes = o.1.1 }
step_takes net room (NoPins gate) e = let o : _ × (_ × _) = only_steps room e in record { steps = o.0; pins = o.1.0; nodes = o.1.1 }
step_takes net room (OnePin gate) e = let o : _ × (_ × _) = only_steps room e in record { steps = o.0; pins = o.1.0; nodes = o.1.1 }
step_takes net room (Twice gate) e = let o : _ × (_ × _) = only_steps room e in record { steps = o.0; pins = o.1.0; nodes = o.1.1 }
step_takes net room (Twin gate other) e = let o : _ × (_ × _) = only_steps room e in record { steps = o.0; pins = o.1.0; nodes = o.1.1 }
step_takes net room (Dead gate) e = let o : _ × (_ × _) = only_steps room e in record { steps = o.0; pins = o.1.0; nodes = o.1.1 }

pub entries_are : (v : Circuit) (change : Change) → entries_for v (edit_of change) ≡ 1 + pins_gone (net_of v) change
entries_are v (append gate driver) = refl
entries_are v (remove gate position) = refl
entries_are v (fix gate position value) = refl
entries_are v (readers from to) = refl
entries_are v (new_not driver) = refl
entries_are v (retire gate) = refl
entries_are v (to_not gate position) = refl

-- THE EDIT OF A STEP
module _ (v : Circuit) (trail : Trail) (room : Room) (marks : ℕ) (worklist : List Bool) (step : Step) (well : IsWellFormed (net_of v)) (t : IsTrial v trail room marks worklist) (applies : Applies (net_of v) step) (roomy : has_room (net_of v) room step ≡ true) where
  abbrev change : Change
  change = change_of (net_of v) step

  can : CanChange (net_of v) change
  can = applies_changes (net_of v) step well applies

  takes : Takes room step
  takes = step_takes (net_of v) room step roomy

  pub step_can_edit : CanEdit v (edit_of change)
  step_can_edit =
      let p : (pins_added change ≡ pins_made step) × (nodes_added change ≡ nodes_made step) = step_pins (net_of v) step in
      can_edit v change well can (omega (arith, p.0, takes.pins, t.pins)) (omega (arith, p.1, takes.nodes, t.nodes))

  gone_within : pins_gone (net_of v) change ≤ wire_count (net_of v) + pins_added change
  gone_within = let b : wire_count (changed (net_of v) change) + pins_gone (net_of v) change ≤ wire_count (net_of v) + pins_added change = wires_budget (net_of v) change well can in omega (arith, b)

  pub step_entries : entries_for v (edit_of change) ≤ trail.spare
  step_entries =
      let p : (pins_added change ≡ pins_made step) × (nodes_added change ≡ nodes_made step) = step_pins (net_of v) step in
      omega (arith, entries_are v change, gone_within, p.0, takes.pins, takes.steps, t.entries)

  module _ (w : Circuit) (after : Trail) (next : List Bool) (well' : IsWellFormed (net_of w)) (edits : Edits v (edit_of change) w) (lead : LeadOn v w trail.entries after.entries) (spent : after.spare + entries_for v (edit_of change) ≡ trail.spare) (few : length (net_of w).nodes ≤ 4294967295) where
    pub step_net : net_of w ≡ stepped (net_of v) step
    step_net = edited_net v w change well well' edits

    pub step_trial : KeepsMarks worklist next → MarksTouched (net_of v) change next → IsTrial w after (room_after room step) marks next
    step_trial k touched =
        let p : (pins_added change ≡ pins_made step) × (nodes_added change ≡ nodes_made step) = step_pins (net_of v) step in
        let wires : wire_count (changed (net_of v) change) + pins_gone (net_of v) change ≤ wire_count (net_of v) + pins_added change = wires_budget (net_of v) change well can in
        let room_is : (free_pins w + pins_added change ≡ free_pins v) × (free_nodes v ≤ free_nodes w + nodes_added change) = edited_room v w change edits in
        let long : length (changed (net_of v) change).nodes ≤ length (net_of v).nodes + nodes_added change = length_budget (net_of v) change in
        let is : net_of w ≡ changed (net_of v) change = step_net in
        let wires_is : wire_count (net_of w) ≡ wire_count (changed (net_of v) change) = ap wire_count is in
        let long_is : length (net_of w).nodes ≡ length (changed (net_of v) change).nodes = ap (λ (n : Net). length n.nodes) is in
        record {
          back = lead.back t.back;
          within = lead.within t.within;
          entries = omega (arith, wires, wires_is, p.0, takes.pins, takes.steps, t.entries, spent, entries_are v change);
          pins = omega (arith, room_is.0, p.0, takes.pins, t.pins);
          nodes = omega (arith, room_is.1, p.1, takes.nodes, t.nodes);
          marks_suffice = omega (arith, long, long_is, p.1, takes.nodes, t.marks_suffice);
          worklist_suffices = omega (arith, t.worklist_suffices, k.count);
          quiet = subst (λ (n : Net). IsQuiet n next) (sym is)
              (quiet_after (net_of v) change worklist next well can t.quiet k touched (omega (arith, few, long, long_is, p.1, takes.nodes, t.marks_suffice, t.worklist_suffices, k.count)));
        }
