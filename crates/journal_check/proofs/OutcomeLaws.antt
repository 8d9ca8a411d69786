-- A record leads to one outcome at most.
use Rattle.std.proofs.Common.{◌≡◌, ℕ, zero, suc, ◌<◌, Bool, true, false, not, ◌&&◌, ◌||◌, Option, Some, None, List, [], ◌∷◌, length, refl, ap, sym, subst, ◌∙◌, ◌↔◌, inl, inr, arith, nat_lt}
use Rattle.std.proofs.lemmas.Bool.Decides.{nat_tests}
use Rattle.std.specs.Prelude.{slice_get, option_and_then, take}
use Rattle.std.proofs.lemmas.Bool.{false_from_ne_true}
use Rattle.rm_base.specs.declared.numbers.NodeId.{NodeId}
use Rattle.rm_base.specs.declared.numbers.Fault.{Fault}
use Rattle.gate_net.specs.Net.{Node, Net, drivers_of, kind_in, node_at, wire_count}
use Rattle.gate_net.specs.Faults.{faults_of}
use Rattle.gate_net.specs.Edits.{last_pin}
use Rattle.refutation.specs.declared.items.Item.{Item}
use Rattle.refutation.specs.declared.items.Form.TheVariants.{Closed, Partial}
use Rattle.refutation_check.specs.FirstRefusal.{IsAcceptedAs, IsFirstRefusal}
use Rattle.refutation_check.specs.Laws.{AcceptedAreNotRefused, RefusalsAgree}
use Rattle.refutation_check.specs.declared.refusals.CheckRefusal.{CheckRefusal}
use Rattle.wire_edit.specs.declared.steps.Step.{Step}
use Rattle.wire_edit.specs.declared.steps.Step.TheVariants as step
use Rattle.wire_edit.specs.declared.refusal.EditRefusal.{EditRefusal}
use Rattle.wire_edit.specs.declared.refusal.EditRefusal.TheVariants.{Full}
use Rattle.wire_edit.specs.Tests.{constant_at, constant_of, driver_at, gate_control, is_among, is_gate, is_in_use, is_junction, is_live, is_not, is_not_kind, is_present, is_repeated, is_some_among, reads_several, family_in}
use Rattle.wire_edit.specs.Steps.{Applies, rule_applies, stepped}
use Rattle.wire_edit.specs.Order.{next_step}
use Rattle.wire_edit.specs.Refusals.{ClosesCycle, IsAnswer, ceiling, fault_of, first_of, has_room, live_count, or_else, refusal_of, unless}
use Rattle.journal_text.specs.declared.record.Record.{Record}
use Rattle.journal_text.specs.declared.record.Record.TheVariants as kept
use Rattle.journal_text.specs.Accepted.{IsAcceptedStep, IsJustified, MayGrow}
use Rattle.journal_check.specs.declared.refusal.Why.TheVariants as why
use Rattle.journal_check.specs.Replaying.{EndLeads, FreezeLeads, HitLeads, LastLeads, Leads, Outcome, Position, RefusesTree, SpentLeads, StepLeads, VerdictLeads, editing, one_each, refused, settling}
use Rattle.wire_edit.specs.Steps.{gate_of_step}
use Rattle.gate_net.specs.Meaning.{is_gate_family}
use Rattle.wire_edit.proofs.Public.{junction_gate, not_gate, several_gate}
use Rattle.rm_base.proofs.Public.{not_from_false}

-- ONE ANSWER TO A STEP
same_cyclic : (P : Type 0) (a b : Bool) → (a ≡ true) ↔ P → (b ≡ true) ↔ P → a ≡ b
same_cyclic P true b f g = sym (g.1 (f.0 refl))
same_cyclic P false true f g = f.1 (g.0 refl)
same_cyclic P false false f g = refl

answer_once : (net : Net) (s : Step) (r t : Option EditRefusal) → IsAnswer net one_each s r → IsAnswer net one_each s t → r ≡ t
answer_once net s r t a b =
    let same : a.cyclic ≡ b.cyclic = same_cyclic (ClosesCycle net s) a.cyclic b.cyclic a.tells b.tells in
    a.is ∙ ap (λ (c : Bool). refusal_of net one_each s c) same ∙ sym b.is

some_once : (e f : EditRefusal) → Some e ≡ Some f → e ≡ f
some_once e f h = ap (λ (o : Option EditRefusal). elim o as (λ _. EditRefusal) [ Some x ↦ x | None ↦ e ]) h

-- A STEP THAT MAY BE MADE ISN'T REFUSED
and_first : (a b : Bool) → a && b ≡ true → a ≡ true
and_first true b e = refl
and_first false b e = cc

and_rest : (a b : Bool) → a && b ≡ true → b ≡ true
and_rest true b e = e
and_rest false b e = cc

last_passes : (b : Bool) (r : EditRefusal) → b ≡ true → unless b r ≡ None
last_passes true r e = refl
last_passes false r e = cc

junction_live : (o : Option Node) → is_present (gate_control (kind_in o)) ≡ true → is_present o ≡ true
junction_live None e = e
junction_live (Some n) e = refl

not_live : (o : Option Node) → is_not_kind (kind_in o) ≡ true → is_present o ≡ true
not_live None e = e
not_live (Some n) e = refl

gate_live : (o : Option Node) → is_gate_family (family_in (kind_in o)) ≡ true → is_present o ≡ true
gate_live None e = e
gate_live (Some n) e = refl

get_within : (xs : List ℕ) (p : ℕ) → is_present (slice_get xs p) ≡ true → p < length xs
get_within [] p e = cc
get_within (x ∷ xs) zero e = omega arith
get_within (x ∷ xs) (suc p) e = let h : p < length xs = get_within xs p e in omega (arith, h)

below : (a b : ℕ) → a < b → nat_lt a b ≡ true
below a b l = grind (arith, nat_tests)

constant_within : (f : ℕ → Option Bool) (xs : List ℕ) (p : ℕ) (o : Option ℕ) → slice_get xs p ≡ o → is_present (option_and_then f o) ≡ true → p < length xs
constant_within f xs p None e h = cc
constant_within f xs p (Some x) e h = get_within xs p (ap is_present e)

repeated_within : (xs : List ℕ) (p : ℕ) (o : Option ℕ) → slice_get xs p ≡ o → is_some_among o (take p xs) ≡ true → p < length xs
repeated_within xs p None e h = cc
repeated_within xs p (Some x) e h = get_within xs p (ap is_present e)

four : (a b c d : Bool) (r s t u : EditRefusal) → a ≡ true → b ≡ true → c ≡ true → d ≡ true → first_of (unless a r ∷ unless b s ∷ unless c t ∷ unless d u ∷ []) ≡ None
four true true true true r s t u e f g h = refl
four true true true false r s t u e f g h = cc
four true true false d r s t u e f g h = cc
four true false c d r s t u e f g h = cc
four false b c d r s t u e f g h = cc

three : (a b c : Bool) (r s t : EditRefusal) → a ≡ true → b ≡ true → c ≡ true → first_of (unless a r ∷ unless b s ∷ unless c t ∷ []) ≡ None
three true true true r s t e f g = refl
three true true false r s t e f g = cc
three true false c r s t e f g = cc
three false b c r s t e f g = cc

five : (a b c d x : Bool) (r s t u v : EditRefusal) → a ≡ true → b ≡ true → c ≡ true → d ≡ true → x ≡ true → first_of (unless a r ∷ unless b s ∷ unless c t ∷ unless d u ∷ unless x v ∷ []) ≡ None
five true true true true true r s t u v e f g h i = refl
five true true true true false r s t u v e f g h i = cc
five true true true false x r s t u v e f g h i = cc
five true true false d x r s t u v e f g h i = cc
five true false c d x r s t u v e f g h i = cc
five false b c d x r s t u v e f g h i = cc

cycle_none : (net : Net) (gate node : NodeId) → Applies net (step.Add gate node) → ClosesCycle net (step.Add gate node) → ⊥
cycle_none net gate node a (inl e) = a.1.1.0 e
cycle_none net gate node a (inr path) = a.1.1.1.0 path

-- no reason lies in the net
faultless : (net : Net) (s : Step) (cyclic : Bool) → (cyclic ≡ true → ClosesCycle net s) → Applies net s → fault_of net s cyclic ≡ None
faultless net (step.Add gate node) cyclic tells a =
    five (is_live net gate.0) (is_live net node.0) (is_junction net gate.0) (not cyclic) (not (is_among node.0 (drivers_of net gate.0))) _ _ _ _ _
    (junction_live (node_at net gate.0) a.0) a.1.0 a.0 (not_from_false cyclic (false_from_ne_true cyclic (λ c. cycle_none net gate node a (tells c)))) (not_from_false (is_among node.0 (drivers_of net gate.0)) a.1.1.1.1)
faultless net (step.Fix gate position value) cyclic tells a =
    three (is_live net gate.0) (is_gate net gate.0) (nat_lt position (length (drivers_of net gate.0))) _ _ _ (gate_live (node_at net gate.0) a.0) a.0 (below position (length (drivers_of net gate.0)) a.1)
faultless net (step.NewNot node) cyclic tells a = last_passes (is_live net node.0) _ a
faultless net (step.Const gate position) cyclic tells a =
    let g : is_gate net gate.0 ≡ true = and_first (is_gate net gate.0) _ a in
    let c : is_present (constant_at net gate.0 position) ≡ true = and_rest (is_in_use net gate.0) _ (and_rest (is_gate net gate.0) _ a) in
    four (is_live net gate.0) (is_gate net gate.0) (nat_lt position (length (drivers_of net gate.0))) (rule_applies net (step.Const gate position)) _ _ _ _
    (gate_live (node_at net gate.0) g) g (below position (length (drivers_of net gate.0)) (constant_within (constant_of net) (drivers_of net gate.0) position (driver_at net gate.0 position) refl c)) a
faultless net (step.Same gate position) cyclic tells a =
    let g : is_gate net gate.0 ≡ true = several_gate net gate.0 (and_first (reads_several net gate.0) _ a) in
    let r : is_repeated (drivers_of net gate.0) position ≡ true = and_rest (is_in_use net gate.0) _ (and_rest (reads_several net gate.0) _ a) in
    four (is_live net gate.0) (is_gate net gate.0) (nat_lt position (length (drivers_of net gate.0))) (rule_applies net (step.Same gate position)) _ _ _ _
    (gate_live (node_at net gate.0) g) g (below position (length (drivers_of net gate.0)) (repeated_within (drivers_of net gate.0) position (slice_get (drivers_of net gate.0) position) refl r)) a
faultless net (step.NoPins gate) cyclic tells a =
    let g : is_gate net gate.0 ≡ true = junction_gate net gate.0 (and_first (is_junction net gate.0) _ a) in
    three (is_live net gate.0) (is_gate net gate.0) (rule_applies net (step.NoPins gate)) _ _ _ (gate_live (node_at net gate.0) g) g a
faultless net (step.OnePin gate) cyclic tells a =
    let g : is_gate net gate.0 ≡ true = junction_gate net gate.0 (and_first (is_junction net gate.0) _ a) in
    three (is_live net gate.0) (is_gate net gate.0) (rule_applies net (step.OnePin gate)) _ _ _ (gate_live (node_at net gate.0) g) g a
faultless net (step.Twice gate) cyclic tells a =
    let g : is_gate net gate.0 ≡ true = not_gate net gate.0 (and_first (is_not net gate.0) _ a) in
    three (is_live net gate.0) (is_gate net gate.0) (rule_applies net (step.Twice gate)) _ _ _ (gate_live (node_at net gate.0) g) g a
faultless net (step.Twin gate other) cyclic tells a =
    let g : is_gate net gate.0 ≡ true = not_gate net gate.0 (and_first (is_not net gate.0) _ a) in
    let o : is_not net other.0 ≡ true = and_first (is_not net other.0) _ (and_rest (is_in_use net gate.0) _ (and_rest (is_not net gate.0) _ a)) in
    four (is_live net gate.0) (is_live net other.0) (is_gate net gate.0) (rule_applies net (step.Twin gate other)) _ _ _ _
    (gate_live (node_at net gate.0) g) (not_live (node_at net other.0) o) g a
faultless net (step.Dead gate) cyclic tells a =
    let g : is_gate net gate.0 ≡ true = and_first (is_gate net gate.0) _ a in
    three (is_live net gate.0) (is_gate net gate.0) (rule_applies net (step.Dead gate)) _ _ _ (gate_live (node_at net gate.0) g) g a

room_for : (net : Net) (s : Step) → MayGrow net s → has_room net one_each s ≡ true
room_for net (step.Add gate node) m = below (wire_count net) ceiling m
room_for net (step.NewNot node) m = below (live_count net) ceiling m
room_for net (step.Fix gate position value) m = refl
room_for net (step.Const gate position) m = refl
room_for net (step.Same gate position) m = refl
room_for net (step.NoPins gate) m = refl
room_for net (step.OnePin gate) m = refl
room_for net (step.Twice gate) m = refl
room_for net (step.Twin gate other) m = refl
room_for net (step.Dead gate) m = refl

none_first : (o p : Option EditRefusal) → o ≡ None → p ≡ None → or_else o p ≡ None
none_first None p e f = f
none_first (Some x) p e f = cc

-- an accepted step isn't refused
pub accepted_answer : (net : Net) (s : Step) (tree : List Item) (r : Option EditRefusal) → IsAcceptedStep net s tree → IsAnswer net one_each s r → r ≡ None
accepted_answer net s tree r a answer =
    answer.is ∙ none_first (fault_of net s answer.cyclic) (unless (has_room net one_each s) Full) (faultless net s answer.cyclic answer.tells.0 a.applies) (last_passes (has_room net one_each s) Full (room_for net s a.grows))

-- ONE OUTCOME
same_edit : (e f : EditRefusal) (a b : Outcome) → e ≡ f → a ≡ refused (why.Edit e) → b ≡ refused (why.Edit f) → a ≡ b
same_edit e f a b s x y = x ∙ ap (λ (z : EditRefusal). refused (why.Edit z)) s ∙ sym y

same_tree : (r s : CheckRefusal) (a b : Outcome) → r ≡ s → a ≡ refused (why.Tree r) → b ≡ refused (why.Tree s) → a ≡ b
same_tree r s a b e x y = x ∙ ap (λ (z : CheckRefusal). refused (why.Tree z)) e ∙ sym y

no_some : (e : EditRefusal) → Some e ≡ None → ⊥
no_some e h = cc

bool_once : (c d : Bool) → Some c ≡ Some d → c ≡ d
bool_once c d e = ap (λ (o : Option Bool). elim o as (λ _. Bool) [ Some x ↦ x | None ↦ c ]) e

module _ (none : AcceptedAreNotRefused) (one : RefusalsAgree) where
  tree_once : (net : Net) (s : Step) (tree : List Item) (r t : CheckRefusal) → RefusesTree net s tree r → RefusesTree net s tree t → r ≡ t
  tree_once net (step.Add gate node) tree r t (c, (k, h)) (d, (l, i)) =
      let same : c ≡ d = bool_once c d (sym k ∙ l) in
      one (stepped net (step.Add gate node)) (last_pin net gate.0 (not d)) Closed tree r t (subst (λ (b : Bool). IsFirstRefusal (stepped net (step.Add gate node)) (last_pin net gate.0 (not b)) Closed tree r) same h) i
  tree_once net (step.Fix gate position value) tree r t h i = one net (record { gate = gate; position = position; value = value }) Closed tree r t h i
  tree_once net (step.NewNot node) tree r t h i = absurd h
  tree_once net (step.Const gate position) tree r t h i = absurd h
  tree_once net (step.Same gate position) tree r t h i = absurd h
  tree_once net (step.NoPins gate) tree r t h i = absurd h
  tree_once net (step.OnePin gate) tree r t h i = absurd h
  tree_once net (step.Twice gate) tree r t h i = absurd h
  tree_once net (step.Twin gate other) tree r t h i = absurd h
  tree_once net (step.Dead gate) tree r t h i = absurd h

  tree_never : (net : Net) (s : Step) (tree : List Item) (r : CheckRefusal) → IsJustified net s tree → RefusesTree net s tree r → ⊥
  tree_never net (step.Add gate node) tree r (c, (k, h)) (d, (l, i)) =
      let same : c ≡ d = bool_once c d (sym k ∙ l) in
      none (stepped net (step.Add gate node)) (last_pin net gate.0 (not d)) Closed tree r (subst (λ (b : Bool). IsAcceptedAs Closed (stepped net (step.Add gate node)) (last_pin net gate.0 (not b)) tree) same h) i
  tree_never net (step.Fix gate position value) tree r h i = none net (record { gate = gate; position = position; value = value }) Closed tree r h i
  tree_never net (step.NewNot node) tree r h i = i
  tree_never net (step.Const gate position) tree r h i = i
  tree_never net (step.Same gate position) tree r h i = i
  tree_never net (step.NoPins gate) tree r h i = i
  tree_never net (step.OnePin gate) tree r h i = i
  tree_never net (step.Twice gate) tree r h i = i
  tree_never net (step.Twin gate other) tree r h i = i
  tree_never net (step.Dead gate) tree r h i = i

  step_once : (net : Net) (s : Step) (tree : List Item) (a b : Outcome) → StepLeads net s tree a → StepLeads net s tree b → a ≡ b
  step_once net s tree a b (inl (e, (h, x))) (inl (f, (i, y))) = same_edit e f a b (some_once e f (answer_once net s (Some e) (Some f) h i)) x y
  step_once net s tree a b (inl (e, (h, x))) (inr (inl (i, y))) = absurd (no_some e (answer_once net s (Some e) None h i))
  step_once net s tree a b (inl (e, (h, x))) (inr (inr (i, y))) = absurd (no_some e (accepted_answer net s tree (Some e) i h))
  step_once net s tree a b (inr (inl (h, x))) (inl (f, (i, y))) = absurd (no_some f (answer_once net s (Some f) None i h))
  step_once net s tree a b (inr (inl (h, (r, (x, e))))) (inr (inl (i, (t, (y, f))))) = same_tree r t a b (tree_once net s tree r t x y) e f
  step_once net s tree a b (inr (inl (h, (r, (x, e))))) (inr (inr (i, y))) = absurd (tree_never net s tree r i.justified x)
  step_once net s tree a b (inr (inr (h, x))) (inl (f, (i, y))) = absurd (no_some f (accepted_answer net s tree (Some f) h i))
  step_once net s tree a b (inr (inr (h, x))) (inr (inl (i, (t, (y, f))))) = absurd (tree_never net s tree t h.justified y)
  step_once net s tree a b (inr (inr (h, x))) (inr (inr (i, y))) = x ∙ sym y

  hit_once : (net : Net) (f : Fault) (fs : List Fault) (vector : List Bool) (a b : Outcome) → HitLeads net f fs vector a → HitLeads net f fs vector b → a ≡ b
  hit_once net f fs vector a b (inl (h, x)) (inl (i, y)) = x ∙ sym y
  hit_once net f fs vector a b (inl (h, x)) (inr (i, y)) = absurd (i h)
  hit_once net f fs vector a b (inr (h, x)) (inl (i, y)) = absurd (h i)
  hit_once net f fs vector a b (inr (h, x)) (inr (i, y)) = x ∙ sym y

  spent_once : (net : Net) (budget : ℕ) (f : Fault) (fs : List Fault) (tree : List Item) (a b : Outcome) → SpentLeads net budget f fs tree a → SpentLeads net budget f fs tree b → a ≡ b
  spent_once net budget f fs tree a b (inl (r, (h, x))) (inl (t, (i, y))) = same_tree r t a b (one net f Partial tree r t h i) x y
  spent_once net budget f fs tree a b (inl (r, (h, x))) (inr (inl (i, y))) = absurd (none net f Partial tree r i h)
  spent_once net budget f fs tree a b (inl (r, (h, x))) (inr (inr (i, y))) = absurd (none net f Partial tree r i h)
  spent_once net budget f fs tree a b (inr (inl (h, x))) (inl (t, (i, y))) = absurd (none net f Partial tree t h i)
  spent_once net budget f fs tree a b (inr (inl (h, (x, e)))) (inr (inl (i, (y, g)))) = e ∙ sym g
  spent_once net budget f fs tree a b (inr (inl (h, (x, e)))) (inr (inr (i, (y, g)))) = absurd (x y)
  spent_once net budget f fs tree a b (inr (inr (h, x))) (inl (t, (i, y))) = absurd (none net f Partial tree t h i)
  spent_once net budget f fs tree a b (inr (inr (h, (x, e)))) (inr (inl (i, (y, g)))) = absurd (y x)
  spent_once net budget f fs tree a b (inr (inr (h, (x, e)))) (inr (inr (i, (y, g)))) = e ∙ sym g

  verdict_once : (net : Net) (budget : ℕ) (fs : List Fault) (r : Record) (a b : Outcome) → VerdictLeads net budget fs r a → VerdictLeads net budget fs r b → a ≡ b
  verdict_once net budget [] r a b h i = h ∙ sym i
  verdict_once net budget (f ∷ fs) (kept.Step s tree) a b h i = h ∙ sym i
  verdict_once net budget (f ∷ fs) (kept.Hit given vector) a b (inl (h, x)) (inl (i, y)) = x ∙ sym y
  verdict_once net budget (f ∷ fs) (kept.Hit given vector) a b (inl (h, x)) (inr (i, y)) = absurd (h i)
  verdict_once net budget (f ∷ fs) (kept.Hit given vector) a b (inr (h, x)) (inl (i, y)) = absurd (i h)
  verdict_once net budget (f ∷ fs) (kept.Hit given vector) a b (inr (h, x)) (inr (i, y)) = hit_once net f fs vector a b x y
  verdict_once net budget (f ∷ fs) (kept.Spent given tree) a b (inl (h, x)) (inl (i, y)) = x ∙ sym y
  verdict_once net budget (f ∷ fs) (kept.Spent given tree) a b (inl (h, x)) (inr (i, y)) = absurd (h i)
  verdict_once net budget (f ∷ fs) (kept.Spent given tree) a b (inr (h, x)) (inl (i, y)) = absurd (i h)
  verdict_once net budget (f ∷ fs) (kept.Spent given tree) a b (inr (h, x)) (inr (i, y)) = spent_once net budget f fs tree a b x y

  some_step : (o : Option Step) (s : Step) → o ≡ Some s → o ≡ None → ⊥
  some_step o s e f = cc

  step_same : (d s t : Step) → Some s ≡ Some t → s ≡ t
  step_same d s t e = ap (λ (o : Option Step). elim o as (λ _. Step) [ Some x ↦ x | None ↦ d ]) e

  tidy_once : (net : Net) (s t : Step) (a b : Outcome) → next_step net ≡ Some s → next_step net ≡ Some t → a ≡ refused (why.NotTidy (gate_of_step s)) → b ≡ refused (why.NotTidy (gate_of_step t)) → a ≡ b
  tidy_once net s t a b h i x y = x ∙ ap (λ (z : Step). refused (why.NotTidy (gate_of_step z))) (step_same s s t (sym h ∙ i)) ∙ sym y

  freeze_once : (net : Net) (budget : ℕ) (r : Record) (a b : Outcome) → FreezeLeads net budget r a → FreezeLeads net budget r b → a ≡ b
  freeze_once net budget r a b (inl (s, (h, x))) (inl (t, (i, y))) = tidy_once net s t a b h i x y
  freeze_once net budget r a b (inl (s, (h, x))) (inr (i, y)) = absurd (some_step (next_step net) s h i)
  freeze_once net budget r a b (inr (h, x)) (inl (t, (i, y))) = absurd (some_step (next_step net) t i h)
  freeze_once net budget r a b (inr (h, x)) (inr (i, y)) = verdict_once net budget (faults_of net) r a b x y

  pub leads_once : (budget : ℕ) (p : Position) (r : Record) (a b : Outcome) → Leads budget p r a → Leads budget p r b → a ≡ b
  leads_once budget (editing net) (kept.Step s tree) a b h i = step_once net s tree a b h i
  leads_once budget (editing net) (kept.Hit f v) a b h i = freeze_once net budget (kept.Hit f v) a b h i
  leads_once budget (editing net) (kept.Spent f t) a b h i = freeze_once net budget (kept.Spent f t) a b h i
  leads_once budget (settling net fs) r a b h i = verdict_once net budget fs r a b h i

  last_once : (net : Net) (fs : List Fault) (a b : Outcome) → LastLeads net fs a → LastLeads net fs b → a ≡ b
  last_once net [] a b h i = h ∙ sym i
  last_once net (f ∷ fs) a b h i = h ∙ sym i

  pub end_once : (p : Position) (a b : Outcome) → EndLeads p a → EndLeads p b → a ≡ b
  end_once (editing net) a b (inl (s, (h, x))) (inl (t, (i, y))) = tidy_once net s t a b h i x y
  end_once (editing net) a b (inl (s, (h, x))) (inr (i, y)) = absurd (some_step (next_step net) s h i)
  end_once (editing net) a b (inr (h, x)) (inl (t, (i, y))) = absurd (some_step (next_step net) t i h)
  end_once (editing net) a b (inr (h, x)) (inr (i, y)) = last_once net (faults_of net) a b x y
  end_once (settling net fs) a b h i = last_once net fs a b h i
