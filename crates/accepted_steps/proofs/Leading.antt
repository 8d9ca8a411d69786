-- Records of accepted steps, and one more.
use Rattle.std.proofs.Common.{◌≡◌, ◌≢◌, ℕ, ◌+◌, ◌^◌, ◌≤◌, List, [], ◌∷◌, ◌++◌, length, Option, None, Some, IfOk, Result, Ok, Err, refl, ap, sym, subst, ◌∙◌, inl, inr, arith}
use Rattle.std.proofs.lemmas.List.{length-append}
use Rattle.rm_model.specs.declared.parts.Model.{Model}
use Rattle.gate_net.specs.Net.{Net}
use Rattle.refutation.specs.declared.items.Item.{Item}
use Rattle.wire_edit.specs.declared.steps.Step.{Step}
use Rattle.wire_edit.specs.Steps.{stepped}
use Rattle.cover_decompose.specs.Decomposition.{net_of_model}
use Rattle.journal_text.specs.Accepted.{IsAcceptedStep}
use Rattle.journal_text.specs.declared.record.Record.{Record}
use Rattle.journal_text.specs.declared.record.Record.TheVariants as kept
use Rattle.journal_text.proofs.Public.{accepted_then, steps_then}
use Rattle.journal_check.specs.Laws.{RecordsReplay}
use Rattle.journal_check.specs.Replaying.{Leads, Position, StepLeads, editing, goes_on, next_number, refused}
use Rattle.journal_check.specs.Standing.{Standing, Steps}
use Rattle.journal_check.specs.declared.refusal.JournalRefusal.{JournalRefusal}
use Rattle.journal_check.specs.declared.refusal.Why.TheVariants as why
use Rattle.accepted_steps.specs.Taken.{AreLed}
use Rattle.accepted_steps.specs.Inner.Taking.{IsRefusedBehind, RecordSays, Stands, StandsIn, StepOf}
use Rattle.accepted_steps.specs.declared.stop.Ended.{Ended}
use Rattle.accepted_steps.specs.declared.stop.Ended.TheVariants.{AtRefusal}

-- none
pub led_none : (m : Model) (b : ℕ) → AreLed m b [] []
led_none m b = record { last = net_of_model m; accepted = refl; leads = refl; are = refl }

first_stands : (m : Model) (b : ℕ) (s : Standing) → s ≡ record { position = editing (net_of_model m); budget = b; number = 1; refusal = None } → Stands m b [] s []
first_stands m b s e = record {
  led = record { last = net_of_model m; accepted = refl; leads = refl; are = refl };
  budget_is = ap (λ (x : Standing). x.budget) e;
  number = ap (λ (x : Standing). x.number) e;
  unrefused = ap (λ (x : Standing). x.refusal) e;
  position = ap (λ (x : Standing). x.position) e;
}

pub stands_first : (m : Model) (b : ℕ) (s : Standing) (steps : List Step) → s ≡ record { position = editing (net_of_model m); budget = b; number = 1; refusal = None } → steps ≡ [] → Stands m b [] s steps
stands_first m b s steps e none = subst (λ (ss : List Step). Stands m b [] s ss) (sym none) (first_stands m b s e)

-- a step that goes on is an accepted one
same_position : (p q : Position) → goes_on p ≡ goes_on q → p ≡ q
same_position p q e = cc

step_leads : (net : Net) (s : Step) (tree : List Item) (p : Position) → StepLeads net s tree (goes_on p) → IsAcceptedStep net s tree × (p ≡ editing (stepped net s))
step_leads net s tree p (inl (e, (a, h))) = cc
step_leads net s tree p (inr (inl (a, (r, (t, h))))) = cc
step_leads net s tree p (inr (inr (a, h))) = (a, same_position p (editing (stepped net s)) h)

-- one more step
step_stands : RecordsReplay → (m : Model) (b : ℕ) (rs : List Record) (old new : Standing) (steps : List Step) (s : Step) (tree : List Item) (u : Unit {0}) → Stands m b rs old steps → length rs ≤ 2 ^ 62 → Steps old.refusal old (kept.Step s tree) new (Ok u) → Stands m b (rs ++ kept.Step s tree ∷ []) new (steps ++ s ∷ [])
step_stands law m b rs old new steps s tree u j l h =
    let on = subst (λ (o : Option JournalRefusal). Steps o old (kept.Step s tree) new (Ok u)) j.unrefused h in
    let there : Leads b old.position (kept.Step s tree) (goes_on new.position) = subst (λ (k : ℕ). Leads k old.position (kept.Step s tree) (goes_on new.position)) j.budget_is on.0 in
    let leads : Leads b (editing j.led.last) (kept.Step s tree) (goes_on new.position) = subst (λ (p : Position). Leads b p (kept.Step s tree) (goes_on new.position)) j.position there in
    let at = step_leads j.led.last s tree new.position leads in
    let long : length (rs ++ kept.Step s tree ∷ []) ≡ length rs + 1 = length-append rs (kept.Step s tree ∷ []) in
    let number : next_number old.number ≡ 1 + length (rs ++ kept.Step s tree ∷ []) = omega (arith, j.number, l, long) in
    record {
      led = record {
        last = stepped j.led.last s;
        accepted = accepted_then (net_of_model m) j.led.last (stepped j.led.last s) rs (kept.Step s tree ∷ []) j.led.accepted (at.0, refl);
        leads = law.more b (editing (net_of_model m)) (editing j.led.last) (editing (stepped j.led.last s)) rs (kept.Step s tree) j.led.leads (inr (inr (at.0, refl)));
        are = steps_then rs (kept.Step s tree ∷ []) ∙ ap (λ (ss : List Step). ss ++ s ∷ []) j.led.are;
      };
      budget_is = ap (λ (x : Standing). x.budget) on.1 ∙ j.budget_is;
      number = ap (λ (x : Standing). x.number) on.1 ∙ number;
      unrefused = ap (λ (x : Standing). x.refusal) on.1 ∙ j.unrefused;
      position = at.1;
    }

pub step_taken : RecordsReplay → (m : Model) (b : ℕ) (rs : List Record) (old new : Standing) (steps after : List Step) (r : Record) (s : Step) (u : Unit {0}) → StepOf r s → after ≡ steps ++ s ∷ [] → Stands m b rs old steps → length rs ≤ 2 ^ 62 → Steps old.refusal old r new (Ok u) → Stands m b (rs ++ r ∷ []) new after
step_taken law m b rs old new steps after r s u of e j l h =
    let given : Steps old.refusal old (kept.Step s of.0) new (Ok u) = subst (λ (x : Record). Steps old.refusal old x new (Ok u)) of.1 h in
    let stands : Stands m b (rs ++ kept.Step s of.0 ∷ []) new (steps ++ s ∷ []) = step_stands law m b rs old new steps s of.0 u j l given in
    subst (λ (ss : List Step). Stands m b (rs ++ r ∷ []) new ss) (sym e) (subst (λ (x : Record). Stands m b (rs ++ x ∷ []) new (steps ++ s ∷ [])) (sym of.1) stands)

-- a step that is refused
pub step_refused : (m : Model) (b : ℕ) (rs : List Record) (old new : Standing) (steps : List Step) (r : Record) (e : JournalRefusal) → Stands m b rs old steps → e.why ≢ why.NoMemory → Steps old.refusal old r new (Err e) → IsRefusedBehind m b rs r e steps
step_refused m b rs old new steps r e j plain h =
    let on = subst (λ (o : Option JournalRefusal). Steps o old r new (Err e)) j.unrefused h in
    let there : Leads b old.position r (refused e.why) = subst (λ (k : ℕ). Leads k old.position r (refused e.why)) j.budget_is (on.1.1 plain).0 in
    record {
      led = j.led;
      plain = plain;
      refuses = subst (λ (p : Position). Leads b p r (refused e.why)) j.position there;
      number = on.0 ∙ j.number;
    }

-- what a refusal says
pub refused_says : {E : Type 0} (answer : Result (Option Ended) E) (e : JournalRefusal) (Q : Option Ended → Type 0) → IfOk answer (λ o. (o ≡ Some (AtRefusal e)) × (e.why ≢ why.NoMemory)) → (e.why ≢ why.NoMemory → Q (Some (AtRefusal e))) → IfOk answer Q
refused_says (Ok o) e Q h f = subst Q (sym h.0) (f h.1)
refused_says (Err x) e Q h f = tt

-- the records of a replay that stands
pub led_in : (m : Model) (b : ℕ) (rs : List Record) (steps : List Step) (o : Option Standing) → StandsIn m b rs steps o → AreLed m b rs steps
led_in m b rs steps None h = absurd h
led_in m b rs steps (Some s) h = h.led
