-- A trial goes back to its start, and starts again from where it is.
use Rattle.std.proofs.Common.{◌≡◌, ℕ, ◌+◌, ◌<◌, ◌≤◌, Bool, true, false, inl, inr, Option, Some, None, List, [], ◌∷◌, ◌++◌, length, refl, sym, ◌∙◌, ap, subst, arith, length-append}
use Rattle.std.proofs.lemmas.Bool.{both_ways, cases_lt, false_from_ne_true}
use Rattle.std.specs.Cmp.{nat_cmp_total}
use Rattle.std.specs.FinSet.{same_set, len, nat_cmp-IsAntisymmetric}
use Rattle.gate_net.specs.declared.Kind.{Kind}
use Rattle.gate_net.specs.Net.{Net, wire_count, source_count, gate_count}
use Rattle.gate_graph.specs.Wirings.{Wiring, free_in}
use Rattle.gate_graph.specs.Circuit.{Circuit, wiring, net_of, free_pins, free_nodes, pins_taken, live_nodes, SameWiring}
use Rattle.gate_graph.specs.Undoing.{CanGoBack, AreWithin, LeadOn, back_to}
use Rattle.gate_graph.specs.Changes.{Edits, entries_for}
use Rattle.gate_graph.specs.Holds.{held}
use Rattle.gate_graph.specs.Trail.{Trail}
use Rattle.gate_graph.specs.declared.undo_list.Undo.{Undo}
use Rattle.wire_edit.specs.declared.steps.Step.{Step}
use Rattle.wire_edit.specs.declared.room.Room.{Room}
use Rattle.wire_edit.specs.Tests.{is_gate}
use Rattle.wire_edit.specs.Changes.{Change, append, remove, fix, readers, new_not, retire, to_not}
use Rattle.wire_edit.specs.Order.{IsTidy}
use Rattle.wire_edit.specs.Edited.{edit_of}
use Rattle.wire_edit.specs.Inner.Marked.{is_marked, IsQuiet}
use Rattle.wire_edit.specs.declared.kept.Kept.{Kept}
use Rattle.wire_edit.specs.Inner.Known.{IsFresh, IsKept}
use Rattle.wire_edit.specs.Tried.{StepList}
use Rattle.wire_edit.specs.Inner.Trials.{HasEnough, IsReserved, IsTrial, IsReady, IsStart, GoesBack}
use Rattle.wire_edit.proofs.Ordering.{gate_below}
use Rattle.wire_edit.proofs.KnownPins.{fresh_kept}
use Rattle.wire_edit.proofs.RuleAt.{no_rule}
use Rattle.wire_edit.proofs.Trying.{tidy_rules, next_none}
use Rattle.wire_edit.proofs.TrialSteps.{entries_are}

-- GRAPHS WITH ONE WIRING
same_taken : (v w : Circuit) → wiring v ≡ wiring w → pins_taken v ≡ pins_taken w
same_taken v w e = ap len (same_set nat_cmp_total nat_cmp-IsAntisymmetric v.pool.taken w.pool.taken (λ q. ap (λ (x : Wiring). x.rings.taken q) e))

free_within : (kinds : List (Option Kind)) → free_in kinds ≤ length kinds
free_within [] = omega arith
free_within (None ∷ kinds) = let rest : free_in kinds ≤ length kinds = free_within kinds in omega (arith, rest)
free_within (Some k ∷ kinds) = let rest : free_in kinds ≤ length kinds = free_within kinds in omega (arith, rest)

all_nodes : (w : Circuit) → live_nodes w + free_nodes w ≡ length w.kinds
all_nodes w = omega (arith, free_within w.kinds)

-- A START
pub starts_here : SameWiring → (w : Circuit) (trail : Trail) (room : Room) (marks : ℕ) (worklist : List Bool) (tidy : Bool) → IsTrial w trail room marks worklist → trail.entries ≡ [] → live_nodes w ≡ 2 + source_count (net_of w) + gate_count (net_of w) → (tidy ≡ true → IsTidy (net_of w)) → GoesBack w trail [] room.steps room marks tidy
starts_here same w trail room marks worklist tidy t none live known = record {
  steps_left = omega arith;
  made = omega arith;
  at_start = λ v e.
      let is : wiring v ≡ wiring w = e ∙ ap (λ (es : List Undo). back_to (wiring w) es) none in
      let net : net_of v ≡ net_of w = (same v w is).0 in
      let taken : pins_taken v ≡ pins_taken w = same_taken v w is in
      record {
        entries = omega (arith, t.entries, ap wire_count net);
        pins = omega (arith, t.pins, taken);
        nodes = omega (arith, t.nodes, live, all_nodes w, ap source_count net, ap gate_count net);
        marks_suffice = omega (arith, t.marks_suffice, ap (λ (n : Net). length n.nodes) net);
        is_tidy = λ b. subst IsTidy (sym net) (known b);
      };
}

-- A STEP
pub edited_sum : (v w : Circuit) (change : Change) → Edits v (edit_of change) w → free_pins w + pins_taken w ≡ free_pins v + pins_taken v
edited_sum v w (append gate driver) e = omega (arith, e.1.1.pins_left, e.1.1.pins_more)
edited_sum v w (remove gate position) e = omega (arith, e.1.1.pins_left, e.1.1.pins_more)
edited_sum v w (fix gate position value) e = omega (arith, e.1.1.pins_left, e.1.1.pins_more)
edited_sum v w (readers from to) e = omega (arith, e.1.1.pins_left, e.1.1.pins_more)
edited_sum v w (new_not driver) e = omega (arith, e.1.pins_left, e.1.pins_more)
edited_sum v w (retire gate) e = omega (arith, e.1.1.pins_left, e.1.1.pins_more)
edited_sum v w (to_not gate position) e = omega (arith, e.1.1.pins_left, e.1.1.pins_more)

pub step_back : (v w : Circuit) (trail after : Trail) (steps : List Step) (step : Step) (change : Change) (spare left : ℕ) (first : Room) (marks : ℕ) (tidy : Bool) (next : List Step) → next ≡ steps ++ step ∷ [] → GoesBack v trail steps spare first marks tidy → Edits v (edit_of change) w → LeadOn v w trail.entries after.entries → length after.entries + after.spare ≡ length trail.entries + trail.spare → after.spare + entries_for v (edit_of change) ≡ trail.spare → length w.kinds ≡ length v.kinds → left + 1 ≡ spare → GoesBack w after next left first marks tidy
step_back v w trail after steps step change spare left first marks tidy next are b edits lead together spent kinds one =
    let longer : length next ≡ length steps + 1 = ap length are ∙ length-append steps (step ∷ []) in
    let sum : free_pins w + pins_taken w ≡ free_pins v + pins_taken v = edited_sum v w change edits in
    record {
      steps_left = omega (arith, b.steps_left, longer, one);
      made = omega (arith, b.made, longer, together, spent, entries_are v change);
      at_start = λ start e.
          let s : IsStart start v trail first marks tidy = b.at_start start (e ∙ lead.to) in
          record {
            entries = omega (arith, s.entries, together);
            pins = omega (arith, s.pins, sum);
            nodes = omega (arith, s.nodes, kinds);
            marks_suffice = s.marks_suffice;
            is_tidy = s.is_tidy;
          };
    }

-- BACK AT THE START
-- no rule applies at an unmarked number of a tidy net, and all numbers are marked of another
pub quiet_back : (net : Net) (worklist : List Bool) → IsTidy net → IsQuiet net worklist
quiet_back net worklist tidy x unmarked = tidy_rules net tidy x

pub quiet_all : (net : Net) (worklist : List Bool) → length net.nodes ≤ length worklist → ((k : ℕ) → k < length worklist → is_marked worklist k ≡ true) → IsQuiet net worklist
quiet_all net worklist le all x unmarked = elim (cases_lt x (length worklist)) [
  | inl lt ↦ absurd (both_ways (is_marked worklist x) unmarked (all x lt))
  | inr above ↦ no_rule net x (false_from_ne_true (is_gate net x) (λ g. let lt : x < length net.nodes = gate_below net x g in omega (arith, lt, above, le)))
]

pub taken_back_trial : (v w : Circuit) (trail after : Trail) (steps : List Step) (spare : ℕ) (room first : Room) (marks : ℕ) (worklist next : List Bool) (tidy : Bool) → GoesBack v trail steps spare first marks tidy → IsTrial v trail room marks worklist → wiring w ≡ back_to (wiring v) trail.entries → CanGoBack (wiring w) [] → after.entries ≡ [] → after.spare ≡ trail.spare + length trail.entries → free_pins w + pins_taken w ≡ free_pins v + pins_taken v → length w.kinds ≡ length v.kinds → live_nodes w ≡ 2 + source_count (net_of w) + gate_count (net_of w) → length (net_of w).nodes ≤ 4294967295 → length next ≡ length worklist → (tidy ≡ false → (k : ℕ) → k < length next → is_marked next k ≡ true) → IsTrial w after first marks next
taken_back_trial v w trail after steps spare room first marks worklist next tidy b t is back none given sum kinds live few long all =
    let s : IsStart w v trail first marks tidy = b.at_start w is in
    record {
      back = subst (λ (es : List Undo). CanGoBack (wiring w) es) (sym none) back;
      within = subst (λ (es : List Undo). AreWithin (length w.kinds) es) (sym none) tt;
      entries = omega (arith, s.entries, given);
      pins = omega (arith, s.pins, sum);
      nodes = omega (arith, s.nodes, live, kinds, all_nodes w);
      marks_suffice = s.marks_suffice;
      worklist_suffices = omega (arith, t.worklist_suffices, long);
      quiet = at tidy refl;
    }
  where
    s : IsStart w v trail first marks tidy
    s = b.at_start w is

    at : (known : Bool) → tidy ≡ known → IsQuiet (net_of w) next
    at true e = quiet_back (net_of w) next (s.is_tidy e)
    at false e = quiet_all (net_of w) next (omega (arith, s.marks_suffice, t.worklist_suffices, long, few)) (all e)

-- KEPT
-- what holds of a trial holds after its steps are kept, with any room for steps that the entries suffice for
pub kept_trial : (v w : Circuit) (trail after : Trail) (room : Room) (steps : ℕ) (marks : ℕ) (worklist : List Bool) → IsTrial v trail room marks worklist → net_of w ≡ net_of v → CanGoBack (wiring w) [] → after.entries ≡ [] → after.spare ≡ trail.spare + length trail.entries → steps ≤ room.steps + length trail.entries → free_pins v ≤ free_pins w → free_nodes w ≡ free_nodes v → IsTrial w after (record room { steps = steps }) marks worklist
kept_trial v w trail after room steps marks worklist t net back none given within pins nodes = record {
  back = subst (λ (es : List Undo). CanGoBack (wiring w) es) (sym none) back;
  within = subst (λ (es : List Undo). AreWithin (length w.kinds) es) (sym none) tt;
  entries = omega (arith, t.entries, ap wire_count net, given, within);
  pins = omega (arith, t.pins, pins);
  nodes = omega (arith, t.nodes, nodes);
  marks_suffice = omega (arith, t.marks_suffice, ap (λ (n : Net). length n.nodes) net);
  worklist_suffices = t.worklist_suffices;
  quiet = subst (λ (n : Net). IsQuiet n worklist) (sym net) t.quiet;
}

-- WHAT HOLDS OF A TRIAL
-- as a record of the lists of steps, so that each call tells it of its own
abbrev Holds : Circuit → Trail → ℕ → ℕ → StepList → ℕ → ℕ → List Bool → Kept → Room → Bool → Type 0
Holds w trail pins nodes made marks seen worklist kept first tidy =
    IsTrial w trail (record { pins = pins; nodes = nodes; steps = made.spare }) marks worklist × IsReady w trail made.steps made.spare marks seen kept first tidy

new_holds : SameWiring → (w : Circuit) (trail : Trail) (room : Room) (marks seen : ℕ) (worklist : List Bool) (kept : Kept) (tidy : Bool) → IsTrial w trail room marks worklist → trail.entries ≡ [] → marks ≤ seen → marks ≤ length kept.marks.items → IsKept (net_of w) kept → live_nodes w ≡ 2 + source_count (net_of w) + gate_count (net_of w) → (tidy ≡ true → IsTidy (net_of w)) → IsTrial w trail room marks worklist × IsReady w trail [] room.steps marks seen kept room tidy
new_holds same w trail room marks seen worklist kept tidy t none suffices kept_suffices is_kept live known =
    (t, record { begun = (λ _. refl, λ _. none); seen_suffices = suffices; kept_suffices = kept_suffices; known = is_kept; goes_back = starts_here same w trail room marks worklist tidy t none live known })

pub over_holds : SameWiring → (v w : Circuit) (trail : Trail) (room : Room) (made : StepList) (marks seen : ℕ) (worklist : List Bool) (kept : Kept) (tidy : Bool) → IsTrial w trail room marks worklist → made ≡ record { steps = []; spare = room.steps } → trail.entries ≡ [] → marks ≤ seen → marks ≤ length kept.marks.items → IsFresh kept → live_nodes w ≡ 2 + source_count (net_of w) + gate_count (net_of w) → net_of w ≡ net_of v → (tidy ≡ true → IsTidy (net_of v)) → Holds w trail room.pins room.nodes made marks seen worklist kept room tidy
over_holds same v w trail room made marks seen worklist kept tidy t is none suffices kept_suffices fresh live net known =
    subst (λ (m : StepList). Holds w trail room.pins room.nodes m marks seen worklist kept room tidy) (sym is)
    (new_holds same w trail room marks seen worklist kept tidy t none suffices kept_suffices (fresh_kept (net_of w) kept fresh) live (λ b. subst IsTidy (sym net) (known b)))

pub back_holds : SameWiring → (v w : Circuit) (trail after : Trail) (steps : List Step) (spare : ℕ) (room first : Room) (marks seen : ℕ) (worklist next : List Bool) (kept forgotten : Kept) (tidy : Bool) (made : StepList) → IsTrial v trail room marks worklist → IsReady v trail steps spare marks seen kept first tidy → IsFresh forgotten → length forgotten.marks.items ≡ length kept.marks.items → wiring w ≡ back_to (wiring v) trail.entries → CanGoBack (wiring w) [] → after.entries ≡ [] → after.spare ≡ trail.spare + length trail.entries → free_pins w + pins_taken w ≡ free_pins v + pins_taken v → length w.kinds ≡ length v.kinds → live_nodes w ≡ 2 + source_count (net_of w) + gate_count (net_of w) → length (net_of w).nodes ≤ 4294967295 → length next ≡ length worklist → (tidy ≡ false → (k : ℕ) → k < length next → is_marked next k ≡ true) → made ≡ record { steps = []; spare = spare + length steps } → Holds w after first.pins first.nodes made marks seen next forgotten first tidy
back_holds same v w trail after steps spare room first marks seen worklist next kept forgotten tidy made t r fresh size is back none given sum kinds live few long all made_is =
    subst (λ (m : StepList). Holds w after first.pins first.nodes m marks seen next forgotten first tidy) (sym made_is)
    (subst (λ (n : ℕ). Holds w after first.pins first.nodes (record { steps = []; spare = n }) marks seen next forgotten first tidy) (sym r.goes_back.steps_left)
    (new_holds same w after first marks seen next forgotten tidy (taken_back_trial v w trail after steps spare room first marks worklist next tidy r.goes_back t is back none given sum kinds live few long all) none r.seen_suffices
    (omega (arith, r.kept_suffices, size)) (fresh_kept (net_of w) forgotten fresh) live
    (λ b. (r.goes_back.at_start w is).is_tidy b)))

pub kept_holds : SameWiring → (v w : Circuit) (trail after : Trail) (room first : Room) (marks seen : ℕ) (worklist next : List Bool) (kept : Kept) (tidy known : Bool) (steps : List Step) (made : StepList) (left : ℕ) → IsTrial v trail room marks worklist → IsReady v trail steps room.steps marks seen kept first tidy → net_of w ≡ net_of v → CanGoBack (wiring w) [] → after.entries ≡ [] → after.spare ≡ trail.spare + length trail.entries → free_pins w ≡ free_pins v + length (held trail.entries) → free_nodes w ≡ free_nodes v → live_nodes w ≡ 2 + source_count (net_of w) + gate_count (net_of w) → next ≡ worklist → (known ≡ true → (k : ℕ) → is_marked next k ≡ false) → (n : ℕ) → n ≤ length steps → made ≡ record { steps = []; spare = room.steps + n } → left ≡ made.spare → Holds w after room.pins room.nodes made marks seen next kept (record { pins = room.pins; nodes = room.nodes; steps = left }) known
kept_holds same v w trail after room first marks seen worklist next kept tidy known steps made left t r net back none given pins nodes live worklist_is unmarked n few made_is left_is =
    subst (λ (m : StepList). Holds w after room.pins room.nodes m marks seen next kept (record { pins = room.pins; nodes = room.nodes; steps = left }) known) (sym made_is)
    (subst (λ (l : ℕ). Holds w after room.pins room.nodes (record { steps = []; spare = room.steps + n }) marks seen next kept (record { pins = room.pins; nodes = room.nodes; steps = l }) known) (sym (left_is ∙ ap (λ (m : StepList). m.spare) made_is))
    (subst (λ (bs : List Bool). Holds w after room.pins room.nodes (record { steps = []; spare = room.steps + n }) marks seen bs kept (record { pins = room.pins; nodes = room.nodes; steps = room.steps + n }) known) (sym worklist_is)
    (new_holds same w after (record room { steps = room.steps + n }) marks seen worklist kept known
    (kept_trial v w trail after room (room.steps + n) marks worklist t net back none given (omega (arith, few, r.goes_back.made)) (omega (arith, pins)) nodes)
    none r.seen_suffices r.kept_suffices (subst (λ (m : Net). IsKept m kept) (sym net) r.known) live
    (λ b. subst IsTidy (sym net) (next_none (net_of v) worklist t.quiet (λ k. ap (λ (bs : List Bool). is_marked bs k) (sym worklist_is) ∙ unmarked b k))))))

-- MORE ROOM
-- the graph may have got more room
pub reserved_holds : SameWiring → (v w : Circuit) (trail : Trail) (pins nodes : ℕ) (made : StepList) (marks seen : ℕ) (worklist : List Bool) (kept : Kept) (first : Room) (tidy : Bool) → IsTrial v trail (record { pins = pins; nodes = nodes; steps = made.spare }) marks worklist → IsReady v trail made.steps made.spare marks seen kept first tidy → trail.entries ≡ [] → wiring w ≡ wiring v → IsReserved v w → Holds w trail pins nodes made marks seen worklist kept first tidy
reserved_holds same v w trail pins nodes made marks seen worklist kept first tidy t r none e more = (
  record {
    back = subst (λ (x : Wiring). CanGoBack x trail.entries) (sym e) t.back;
    within = subst (λ (es : List Undo). AreWithin (length w.kinds) es) (sym none) tt;
    entries = omega (arith, t.entries, ap wire_count net);
    pins = omega (arith, t.pins, more.pins);
    nodes = omega (arith, t.nodes, more.nodes);
    marks_suffice = omega (arith, t.marks_suffice, ap (λ (n : Net). length n.nodes) net);
    worklist_suffices = t.worklist_suffices;
    quiet = subst (λ (n : Net). IsQuiet n worklist) (sym net) t.quiet;
  },
  record {
    begun = r.begun;
    seen_suffices = r.seen_suffices;
    kept_suffices = r.kept_suffices;
    known = subst (λ (n : Net). IsKept n kept) (sym net) r.known;
    goes_back = record {
      steps_left = r.goes_back.steps_left;
      made = r.goes_back.made;
      at_start = λ start is.
          let s : IsStart start v trail first marks tidy = r.goes_back.at_start start (is ∙ ap (λ (x : Wiring). back_to x trail.entries) e) in
          record {
            entries = s.entries;
            pins = omega (arith, s.pins, more.pins, more.taken);
            nodes = omega (arith, s.nodes, all_nodes v, all_nodes w, more.nodes, more.live);
            marks_suffice = s.marks_suffice;
            is_tidy = s.is_tidy;
          };
    };
  },
)
  where
    net : net_of w ≡ net_of v
    net = (same w v e).0

-- what is known of the start holds where no step was made
pub known_here : (v : Circuit) (trail : Trail) (steps : List Step) (spare : ℕ) (first : Room) (marks : ℕ) (tidy : Bool) → GoesBack v trail steps spare first marks tidy → trail.entries ≡ [] → tidy ≡ true → IsTidy (net_of v)
known_here v trail steps spare first marks tidy b none = (b.at_start v (ap (λ (es : List Undo). back_to (wiring v) es) (sym none))).is_tidy

-- the room is there already
pub offered_holds : SameWiring → (v : Circuit) (trail : Trail) (room was : Room) (made next : StepList) (marks seen : ℕ) (worklist : List Bool) (kept : Kept) (first : Room) (tidy : Bool) → IsTrial v trail was marks worklist → IsReady v trail made.steps made.spare marks seen kept first tidy → trail.entries ≡ [] → made.steps ≡ [] → next ≡ record { steps = made.steps; spare = room.steps } → HasEnough v trail.spare marks room → live_nodes v ≡ 2 + source_count (net_of v) + gate_count (net_of v) → Holds v trail room.pins room.nodes next marks seen worklist kept room tidy
offered_holds same v trail room was made next marks seen worklist kept first tidy t r none no_steps is enough live =
    subst (λ (m : StepList). Holds v trail room.pins room.nodes m marks seen worklist kept room tidy) (sym (is ∙ ap (λ (s : List Step). let m : StepList = record { steps = s; spare = room.steps } in m) no_steps))
    (new_holds same v trail room marks seen worklist kept tidy
    (record { back = t.back; within = t.within; entries = enough.entries; pins = enough.pins; nodes = enough.nodes; marks_suffice = enough.marks_suffice; worklist_suffices = t.worklist_suffices; quiet = t.quiet })
    none r.seen_suffices r.kept_suffices r.known live (known_here v trail made.steps made.spare first marks tidy r.goes_back none))
