-- What the calls of a trial rest on.
use Rattle.std.proofs.Common.{◌≡◌, ◌≢◌, ℕ, ◌+◌, ◌-◌, ◌<◌, ◌≤◌, Bool, true, false, inl, inr, Some, None, List, [], ◌∷◌, ◌++◌, length, refl, sym, ◌∙◌, ap, subst, arith, min}
use Rattle.std.proofs.lemmas.Bool.{cases_eq, cases_lt, both_ways, lt-ltb, false_from_ne_true}
use Rattle.gate_net.specs.Net.{Net, IsWellFormed, wire_count}
use Rattle.gate_graph.specs.Circuit.{Circuit, wiring, net_of, free_pins, free_nodes}
use Rattle.gate_graph.specs.Undoing.{CanGoBack, AreWithin}
use Rattle.gate_graph.specs.Changes.{Edits}
use Rattle.gate_graph.specs.Trail.{Trail}
use Rattle.gate_graph.specs.declared.editing.Edit.{Edit}
use Rattle.gate_graph.specs.declared.undo_list.Undo.{Undo}
use Rattle.wire_edit.specs.declared.steps.Step.{Step}
use Rattle.wire_edit.specs.declared.steps.Step.TheVariants.{Add, Fix, NewNot, Const, Same, NoPins, OnePin, Twice, Twin, Dead}
use Rattle.wire_edit.specs.declared.room.Room.{Room}
use Rattle.wire_edit.specs.Tests.{is_gate}
use Rattle.wire_edit.specs.Changes.{Change, append, remove, fix, readers, new_not, retire, to_not}
use Rattle.wire_edit.specs.Refusals.{has_room, room_after, nodes_made}
use Rattle.wire_edit.specs.Laws.{IsTidying}
use Rattle.std.specs.Prelude.{not}
use Rattle.wire_edit.specs.Order.{rule_at, next_step, IsTidy}
use Rattle.wire_edit.specs.Work.{pins_made}
use Rattle.wire_edit.specs.Edited.{edit_of, IsNewNot}
use Rattle.wire_edit.specs.Inner.Changes.{least_free}
use Rattle.wire_edit.specs.Inner.Touched.{IsNotOf}
use Rattle.wire_edit.specs.Inner.Marked.{is_marked, KeepsMarks, IsQuiet, MarksTouched}
use Rattle.wire_edit.specs.Inner.Trials.{IsTrial}
use Rattle.wire_edit.proofs.Ordering.{none_from, from_none, gate_below}
use Rattle.wire_edit.proofs.RuleAt.{first_found, no_rule}
use Rattle.wire_edit.proofs.Editing.{edited_net}

pub not_empty : {A : Type 0} (xs : List A) (x : A) → xs ++ x ∷ [] ≡ [] → ⊥
not_empty [] x e = cc
not_empty (y ∷ ys) x e = cc

same_room : (a b : Room) → a.pins ≡ b.pins → a.nodes ≡ b.nodes → a.steps ≡ b.steps → a ≡ b
same_room a b p n s =
    ap (λ (k : ℕ). let r : Room = record { pins = k; nodes = a.nodes; steps = a.steps } in r) p
    ∙ ap (λ (k : ℕ). let r : Room = record { pins = b.pins; nodes = k; steps = a.steps } in r) n
    ∙ ap (λ (k : ℕ). let r : Room = record { pins = b.pins; nodes = b.nodes; steps = k } in r) s

pub room_left : (room : Room) (step : Step) (p n s : ℕ) → p ≡ pins_made step → n ≡ nodes_made step → s + 1 ≡ room.steps → record { pins = room.pins - p; nodes = room.nodes - n; steps = s } ≡ room_after room step
room_left room (Add gate node) p n s a b e = same_room _ _ (omega (arith, a)) (omega (arith, b)) (omega (arith, e))
room_left room (Fix gate position value) p n s a b e = same_room _ _ (omega (arith, a)) (omega (arith, b)) (omega (arith, e))
room_left room (NewNot node) p n s a b e = same_room _ _ (omega (arith, a)) (omega (arith, b)) (omega (arith, e))
room_left room (Const gate position) p n s a b e = same_room _ _ (omega (arith, a)) (omega (arith, b)) (omega (arith, e))
room_left room (Same gate position) p n s a b e = same_room _ _ (omega (arith, a)) (omega (arith, b)) (omega (arith, e))
room_left room (NoPins gate) p n s a b e = same_room _ _ (omega (arith, a)) (omega (arith, b)) (omega (arith, e))
room_left room (OnePin gate) p n s a b e = same_room _ _ (omega (arith, a)) (omega (arith, b)) (omega (arith, e))
room_left room (Twice gate) p n s a b e = same_room _ _ (omega (arith, a)) (omega (arith, b)) (omega (arith, e))
room_left room (Twin gate other) p n s a b e = same_room _ _ (omega (arith, a)) (omega (arith, b)) (omega (arith, e))
room_left room (Dead gate) p n s a b e = same_room _ _ (omega (arith, a)) (omega (arith, b)) (omega (arith, e))

-- MARKS BEFORE AND AFTER AN EDIT
before_edit : (v : Circuit) (change : Change) (edit : Edit) (mid next : List Bool) → edit ≡ edit_of change → (IsNewNot change → ⊥) → ((change' : Change) → edit ≡ edit_of change' → (IsNewNot change' → ⊥) → MarksTouched (net_of v) change' mid) → KeepsMarks mid next → MarksTouched (net_of v) change next
before_edit v change edit mid next e other before k x t lt = k.kept x (before change e other x t (omega (arith, lt, k.count)))

pub touched_carried : (v w : Circuit) (change : Change) (edit : Edit) (mid next : List Bool) → IsWellFormed (net_of v) → IsWellFormed (net_of w) → edit ≡ edit_of change → Edits v (edit_of change) w → ((change' : Change) → edit ≡ edit_of change' → (IsNewNot change' → ⊥) → MarksTouched (net_of v) change' mid) → KeepsMarks mid next → ((driver y : ℕ) → edit ≡ edit_of (new_not driver) → least_free (net_of v).nodes ≤ y → IsNotOf (net_of w) driver y → y < length next → is_marked next y ≡ true) → MarksTouched (net_of v) change next
touched_carried v w (append gate driver) edit mid next well well' e edits before k after = before_edit v (append gate driver) edit mid next e (λ n. n) before k
touched_carried v w (remove gate position) edit mid next well well' e edits before k after = before_edit v (remove gate position) edit mid next e (λ n. n) before k
touched_carried v w (fix gate position value) edit mid next well well' e edits before k after = before_edit v (fix gate position value) edit mid next e (λ n. n) before k
touched_carried v w (readers from to) edit mid next well well' e edits before k after = before_edit v (readers from to) edit mid next e (λ n. n) before k
touched_carried v w (retire gate) edit mid next well well' e edits before k after = before_edit v (retire gate) edit mid next e (λ n. n) before k
touched_carried v w (to_not gate position) edit mid next well well' e edits before k after = before_edit v (to_not gate position) edit mid next e (λ n. n) before k
touched_carried v w (new_not driver) edit mid next well well' e edits before k after =
    λ x t lt. after driver x e t.0 (subst (λ (n : Net). IsNotOf n driver x) (sym (edited_net v w (new_not driver) well well' edits)) t.1) lt

-- THE NEXT STEP BY MARKS
pub next_found : (net : Net) (marks : List Bool) (x : ℕ) (step : Step) → IsQuiet net marks → ((k : ℕ) → k < x → is_marked marks k ≡ false) → rule_at net x ≡ Some step → next_step net ≡ Some step
next_found net marks x step quiet below is =
    first_found (rule_at net) 0 (length net.nodes) x step (omega arith) (omega (arith, within)) is (λ k le lt. quiet k (below k lt))
  where
    gate : is_gate net x ≡ true
    gate = at (is_gate net x) refl
      where
        at : (t : Bool) → is_gate net x ≡ t → t ≡ true
        at true e = refl
        at false e = let wrong : Some step ≡ None = sym is ∙ no_rule net x e in cc

    within : x < length net.nodes
    within = gate_below net x gate

pub next_none : (net : Net) (marks : List Bool) → IsQuiet net marks → ((k : ℕ) → is_marked marks k ≡ false) → next_step net ≡ None
next_none net marks quiet none = none_from (rule_at net) 0 (length net.nodes) (λ k le lt. quiet k (none k))

pub quiet_cleared : (net : Net) (marks next : List Bool) (x : ℕ) → IsQuiet net marks → rule_at net x ≡ None → ((k : ℕ) → is_marked next k ≡ false → k ≢ x → is_marked marks k ≡ false) → IsQuiet net next
quiet_cleared net marks next x quiet none others k e = elim (cases_eq k x) [ inl is ↦ ap (rule_at net) is ∙ none | inr ne ↦ quiet k (others k e ne) ]

-- THE BEGINNING
pub tidy_rules : (net : Net) → IsTidy net → (x : ℕ) → rule_at net x ≡ None
tidy_rules net e x = elim (cases_lt x (length net.nodes)) [
  | inl lt ↦ from_none (rule_at net) 0 (length net.nodes) e x (omega arith) (omega (arith, lt))
  | inr above ↦ no_rule net x (false_from_ne_true (is_gate net x) (λ g. let lt : x < length net.nodes = gate_below net x g in omega (arith, lt, above)))
]

-- no rule applies at an unmarked number: in a tidy net at none, and else all are marked
pub begins_quiet : (net : Net) (tidy : Bool) (numbers : ℕ) (worklist : List Bool) → (tidy ≡ true → IsTidy net) → ((k : ℕ) → k < numbers → is_marked worklist k ≡ not tidy) → (x : ℕ) → x < numbers → is_marked worklist x ≡ false → rule_at net x ≡ None
begins_quiet net true numbers worklist tidy marked x lt unmarked = tidy_rules net (tidy refl) x
begins_quiet net false numbers worklist tidy marked x lt unmarked = absurd (both_ways (is_marked worklist x) unmarked (marked x lt))

pub begun : (w : Circuit) (net : Net) (trail : Trail) (room : Room) (wires entries numbers : ℕ) (worklist : List Bool) → net_of w ≡ net → trail.entries ≡ [] → CanGoBack (wiring w) [] → wires ≡ wire_count net → room.steps + wires + room.pins ≤ entries → entries ≤ trail.spare → room.pins ≤ free_pins w → room.nodes ≤ free_nodes w → min (length net.nodes + room.nodes) 4294967295 ≤ numbers → length net.nodes ≤ 4294967295 → length worklist ≡ numbers → ((x : ℕ) → x < numbers → is_marked worklist x ≡ false → rule_at net x ≡ None) → IsTrial w trail room numbers worklist
begun w net trail room wires entries numbers worklist is none back wires_are needed reserved pins nodes count few long unmarked_quiet = record {
  back = subst (λ (es : List Undo). CanGoBack (wiring w) es) (sym none) back;
  within = subst (λ (es : List Undo). AreWithin (length w.kinds) es) (sym none) tt;
  entries = omega (arith, ap wire_count is, wires_are, needed, reserved);
  pins = pins;
  nodes = nodes;
  marks_suffice = omega (arith, ap (λ (n : Net). length n.nodes) is, count);
  worklist_suffices = omega (arith, long);
  quiet = λ x unmarked. elim (cases_lt x numbers) [
    | inl lt ↦ ap (λ (n : Net). rule_at n x) is ∙ unmarked_quiet x lt unmarked
    | inr above ↦ no_rule (net_of w) x (false_from_ne_true (is_gate (net_of w) x) (λ g.
        let lt : x < length (net_of w).nodes = gate_below (net_of w) x g in omega (arith, lt, above, ap (λ (n : Net). length n.nodes) is, count, few)))
  ];
}

pub tidying_room : (net : Net) (room : Room) (step : Step) → IsTidying step → 0 < room.steps → has_room net room step ≡ true
tidying_room net room (Add gate node) t lt = absurd t
tidying_room net room (Fix gate position value) t lt = absurd t
tidying_room net room (NewNot node) t lt = absurd t
tidying_room net room (Const gate position) t lt = lt-ltb 0 room.steps lt
tidying_room net room (Same gate position) t lt = lt-ltb 0 room.steps lt
tidying_room net room (NoPins gate) t lt = lt-ltb 0 room.steps lt
tidying_room net room (OnePin gate) t lt = lt-ltb 0 room.steps lt
tidying_room net room (Twice gate) t lt = lt-ltb 0 room.steps lt
tidying_room net room (Twin gate other) t lt = lt-ltb 0 room.steps lt
tidying_room net room (Dead gate) t lt = lt-ltb 0 room.steps lt
