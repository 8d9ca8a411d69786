-- An accepted step isn't refused.
use Rattle.std.proofs.Common.{Bool, List, Option, None, Some, ap, inl, inr, nat_lt, not, refl, subst, sym, true, ℕ, ◌<◌, ◌∙◌, ◌≡◌, arith}
use Rattle.std.proofs.lemmas.Bool.Decides.{nat_tests}
use Rattle.gate_net.specs.Edits.{last_pin}
use Rattle.gate_net.specs.Net.{Net, wire_count}
use Rattle.journal_check.specs.Replaying.{RefusesTree, StepLeads, editing, goes_on, one_each, refused}
use Rattle.journal_check.specs.declared.refusal.Why.{Why}
use Rattle.journal_check.specs.declared.refusal.Why.TheVariants as why
use Rattle.journal_text.specs.Accepted.{IsAcceptedStep, IsJustified, MayGrow}
use Rattle.refutation.specs.declared.items.Form.TheVariants.{Closed}
use Rattle.refutation.specs.declared.items.Item.{Item}
use Rattle.refutation_check.specs.FirstRefusal.{IsAcceptedAs}
use Rattle.refutation_check.specs.Laws.{AcceptedAreNotRefused}
use Rattle.refutation_check.specs.declared.refusals.CheckRefusal.{CheckRefusal}
use Rattle.wire_edit.specs.Refusals.{ceiling, has_room, live_count}
use Rattle.wire_edit.specs.Rooms.{ApplicableIsMade}
use Rattle.wire_edit.specs.Steps.{stepped}
use Rattle.wire_edit.specs.declared.refusal.EditRefusal.{EditRefusal}
use Rattle.wire_edit.specs.declared.steps.Step.{Step}
use Rattle.wire_edit.specs.declared.steps.Step.TheVariants as step

below : (a b : ℕ) → a < b → nat_lt a b ≡ true
below a b l = grind (arith, nat_tests)

room_for : (net : Net) (s : Step) → MayGrow net s → has_room net one_each s ≡ true
room_for net (step.Add gate node) m = below (wire_count net) ceiling m
room_for net (step.NewNot node) m = below (live_count net) ceiling m
room_for net (step.Fix gate position value) m = refl
room_for net (step.Const gate position) m = refl
room_for net (step.Same gate position) m = refl
room_for net (step.NoPins gate) m = refl
room_for net (step.OnePin gate) m = refl
room_for net (step.Twice gate) m = refl
room_for net (step.Twin gate other) m = refl
room_for net (step.Dead gate) m = refl

no_some : (e : EditRefusal) → Some e ≡ None → ⊥
no_some e h = cc

bool_once : (c d : Bool) → Some c ≡ Some d → c ≡ d
bool_once c d e = ap (λ (o : Option Bool). elim o as (λ _. Bool) [ Some x ↦ x | None ↦ c ]) e

no_way : (w : Why) (net : Net) → refused w ≡ goes_on (editing net) → ⊥
no_way w net e = cc

module _ (none : AcceptedAreNotRefused) (made : ApplicableIsMade) where
  tree_never : (net : Net) (s : Step) (tree : List Item) (r : CheckRefusal) → IsJustified net s tree → RefusesTree net s tree r → ⊥
  tree_never net (step.Add gate node) tree r (c, (k, h)) (d, (l, i)) =
      let same : c ≡ d = bool_once c d (sym k ∙ l) in
      none (stepped net (step.Add gate node)) (last_pin net gate.0 (not d)) Closed tree r (subst (λ (b : Bool). IsAcceptedAs Closed (stepped net (step.Add gate node)) (last_pin net gate.0 (not b)) tree) same h) i
  tree_never net (step.Fix gate position value) tree r h i = none net (record { gate = gate; position = position; value = value }) Closed tree r h i
  tree_never net (step.NewNot node) tree r h i = i
  tree_never net (step.Const gate position) tree r h i = i
  tree_never net (step.Same gate position) tree r h i = i
  tree_never net (step.NoPins gate) tree r h i = i
  tree_never net (step.OnePin gate) tree r h i = i
  tree_never net (step.Twice gate) tree r h i = i
  tree_never net (step.Twin gate other) tree r h i = i
  tree_never net (step.Dead gate) tree r h i = i

  pub step_never : (net : Net) (s : Step) (tree : List Item) (w : Why) → IsAcceptedStep net s tree → StepLeads net s tree (refused w) → ⊥
  step_never net s tree w a (inl (e, (h, x))) = no_some e (made net one_each s (Some e) a.applies (room_for net s a.grows) h)
  step_never net s tree w a (inr (inl (h, (r, (x, y))))) = tree_never net s tree r a.justified x
  step_never net s tree w a (inr (inr (h, x))) = no_way w (stepped net s) x
