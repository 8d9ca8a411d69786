-- One step of a replay.
use Rattle.std.proofs.Common.{Ok, Err, None, Option, ap, inl, inr, refl, subst, sym, ℕ, ◌∙◌, ◌≡◌, ◌≢◌, List}
use Rattle.gate_net.specs.Net.{Net}
use Rattle.journal_check.specs.Replaying.{Leads, Position, StepLeads, editing, goes_on, next_number, refused}
use Rattle.journal_check.specs.Standing.{Standing, Steps, StepsOn}
use Rattle.journal_check.specs.declared.refusal.JournalRefusal.{JournalRefusal}
use Rattle.journal_check.specs.declared.refusal.Why.{Why}
use Rattle.journal_check.specs.declared.refusal.Why.TheVariants as why
use Rattle.journal_text.specs.Accepted.{IsAcceptedStep}
use Rattle.journal_text.specs.declared.record.Record.{Record}
use Rattle.journal_text.specs.declared.record.Record.TheVariants as kept
use Rattle.refutation.specs.declared.items.Item.{Item}
use Rattle.wire_edit.specs.Steps.{stepped}
use Rattle.wire_edit.specs.declared.steps.Step.{Step}
use Rattle.proof_check.specs.Flaws.{IsNoStep}
use Rattle.proof_check.specs.Inner.Stepping.{Advances, IsStepFlaw, standing}
use Rattle.proof_check.specs.declared.refusal.JudgeRefusal.{JudgeRefusal}
use Rattle.proof_check.specs.declared.refusal.JudgeRefusal.TheVariants as refusal

no_way : (w : Why) (q : Position) → goes_on q ≡ refused w → ⊥
no_way w q e = cc

ways_once : (p q : Position) → goes_on p ≡ goes_on q → p ≡ q
ways_once p q e = cc

goes_there : (net : Net) (s : Step) (tree : List Item) (q : Position) → StepLeads net s tree (goes_on q) → IsAcceptedStep net s tree × (q ≡ editing (stepped net s))
goes_there net s tree q (inl (e, (h, x))) = absurd (no_way (why.Edit e) q x)
goes_there net s tree q (inr (inl (h, (r, (x, y))))) = absurd (no_way (why.Tree r) q y)
goes_there net s tree q (inr (inr (h, x))) = (h, ways_once q (editing (stepped net s)) x)

moved : (net : Net) (budget number : ℕ) (r : Record) (new : Standing) → (IsNoStep r → ⊥) → Leads budget (editing net) r (goes_on new.position) → new ≡ record { position = new.position; budget = budget; number = next_number number; refusal = None } → Advances net budget number r new
moved net budget number (kept.Step s tree) new some leads is =
    let there = goes_there net s tree new.position leads in
    (there.0, is ∙ ap (λ (p : Position). let t : Standing = record { position = p; budget = budget; number = next_number number; refusal = None } in t) there.1)
moved net budget number (kept.Hit f v) new some leads is = some tt
moved net budget number (kept.Spent f t) new some leads is = some tt

pub advances : (net : Net) (budget number : ℕ) (r : Record) (old new : Standing) (u : Unit {0}) → (IsNoStep r → ⊥) → Steps old.refusal old r new (Ok u) → old ≡ standing net budget number → Advances net budget number r new
advances net budget number r old new u some steps is =
    let on : StepsOn (standing net budget number) r new (Ok u) = subst (λ (o : Standing). Steps o.refusal o r new (Ok u)) is steps in
    moved net budget number r new some on.0 on.1

pub fails : (net : Net) (budget number : ℕ) (r : Record) (old new : Standing) (e : JournalRefusal) (told : JudgeRefusal) → (e.why ≡ why.NoMemory → told ≡ refusal.NoMemory) → (e.why ≢ why.NoMemory → told ≡ refusal.Record e)
    → Steps old.refusal old r new (Err e) → old ≡ standing net budget number → told ≢ refusal.NoMemory → IsStepFlaw net budget number r told
fails net budget number r old new e told memory other steps is ne =
    let on : StepsOn (standing net budget number) r new (Err e) = subst (λ (o : Standing). Steps o.refusal o r new (Err e)) is steps in
    let some : e.why ≢ why.NoMemory = λ f. ne (memory f) in
    subst (λ (j : JudgeRefusal). IsStepFlaw net budget number r j) (sym (other some)) (on.0, (on.1.1 some).0)
