-- Replaying accepts exactly the accepted journals.
use Rattle.std.proofs.Common.{◌≡◌, ◌≢◌, ℕ, Bool, List, [], ◌∷◌, ◌++◌, refl, ap, sym, subst, ◌⊎◌, inl, inr}
use Rattle.rm_base.specs.declared.numbers.Fault.{Fault}
use Rattle.gate_net.specs.Net.{Net}
use Rattle.wire_edit.specs.declared.steps.Step.{Step}
use Rattle.wire_edit.specs.Order.{IsTidy}
use Rattle.wire_edit.specs.Steps.{stepped}
use Rattle.refutation.specs.declared.items.Item.{Item}
use Rattle.journal_text.specs.declared.record.Record.{Record}
use Rattle.journal_text.specs.declared.record.Record.TheVariants as kept
use Rattle.journal_check.specs.declared.refusal.Why.TheVariants as why
use Rattle.gate_net.specs.Faults.{faults_of}
use Rattle.journal_check.specs.Verdicts.{Settles, SettleAll}
use Rattle.journal_text.specs.Runs.{AcceptedTo}
use Rattle.journal_check.specs.Accepts.{IsAcceptedFrom}
use Rattle.journal_check.specs.Replaying.{Position, editing, settling, Outcome, goes_on, refused, StepLeads, HitLeads, SpentLeads, VerdictLeads, FreezeLeads, Leads, LastLeads, EndLeads, Replays}

position_of : (p q : Position) → goes_on p ≡ goes_on q → p ≡ q
position_of p q e = cc

net_of_settling : Position → Net → Net
net_of_settling (editing n) d = n
net_of_settling (settling n fs) d = n

same_last : (net last : Net) (fs gs : List Fault) → goes_on (settling last fs) ≡ goes_on (settling net gs) → last ≡ net
same_last net last fs gs e = cc

-- at the end nothing is still to come
last_only : (net last : Net) (fs : List Fault) → LastLeads net fs (goes_on (settling last [])) → (last ≡ net) × (fs ≡ [])
last_only net last [] e = (same_last net last [] [] e, refl)
last_only net last (f ∷ fs) e = cc

-- a verdict that goes on settles the next fault
hit_only : (net : Net) (budget : ℕ) (f given : Fault) (fs : List Fault) (vector : List Bool) (next : Position) → ((given ≢ f) × (goes_on next ≡ refused (why.FaultMissing f))) ⊎ ((given ≡ f) × HitLeads net f fs vector (goes_on next)) → Settles net budget f (kept.Hit given vector) × (next ≡ settling net fs)
hit_only net budget f given fs vector next (inl h) = let e = h.1 in cc
hit_only net budget f given fs vector next (inr (e, inl h)) = ((e, h.0), position_of next (settling net fs) h.1)
hit_only net budget f given fs vector next (inr (e, inr h)) = let k = h.1 in cc

spent_only : (net : Net) (budget : ℕ) (f given : Fault) (fs : List Fault) (tree : List Item) (next : Position) → ((given ≢ f) × (goes_on next ≡ refused (why.FaultMissing f))) ⊎ ((given ≡ f) × SpentLeads net budget f fs tree (goes_on next)) → Settles net budget f (kept.Spent given tree) × (next ≡ settling net fs)
spent_only net budget f given fs tree next (inl h) = let e = h.1 in cc
spent_only net budget f given fs tree next (inr (e, inl h)) = let k = h.1.1 in cc
spent_only net budget f given fs tree next (inr (e, inr (inl h))) = let k = h.1.1 in cc
spent_only net budget f given fs tree next (inr (e, inr (inr h))) = ((e, record { accepted = h.0; edges = h.1.0 }), position_of next (settling net fs) h.1.1)

verdict_only : (net : Net) (budget : ℕ) (f : Fault) (fs : List Fault) (r : Record) (next : Position) → VerdictLeads net budget (f ∷ fs) r (goes_on next) → Settles net budget f r × (next ≡ settling net fs)
verdict_only net budget f fs (kept.Step s tree) next v = cc
verdict_only net budget f fs (kept.Hit given vector) next v = hit_only net budget f given fs vector next v
verdict_only net budget f fs (kept.Spent given tree) next v = spent_only net budget f given fs tree next v

settle_case : (net last : Net) (budget : ℕ) (fs : List Fault) (r : Record) (rs : List Record) (next : Position)
    → ((gs : List Fault) → Replays budget (settling net gs) rs last → (last ≡ net) × SettleAll net budget gs rs)
    → VerdictLeads net budget fs r (goes_on next) → Replays budget next rs last → (last ≡ net) × SettleAll net budget fs (r ∷ rs)
settle_case net last budget [] r rs next ih v l = cc
settle_case net last budget (f ∷ fs) r rs next ih v l =
    let one = verdict_only net budget f fs r next v in
    let rest = ih fs (subst (λ (p : Position). Replays budget p rs last) one.1 l) in
    (rest.0, (one.0, rest.1))

settle_only : (net last : Net) (budget : ℕ) (fs : List Fault) (rs : List Record) → Replays budget (settling net fs) rs last → (last ≡ net) × SettleAll net budget fs rs
settle_only net last budget fs [] l =
    let e = last_only net last fs l in
    (e.0, subst (λ (gs : List Fault). SettleAll net budget gs []) (sym e.1) tt)
settle_only net last budget fs (r ∷ rs) l = settle_case net last budget fs r rs l.0 (λ gs m. settle_only net last budget gs rs m) l.1.0 l.1.1

-- the net is frozen here, and these records settle its faults
frozen : (net last : Net) (budget : ℕ) (records : List Record) → IsTidy net → (last ≡ net) × SettleAll net budget (faults_of net) records → IsAcceptedFrom net budget records last
frozen net last budget records tidy s = record {
  steps = [];
  verdicts = records;
  parts = refl;
  leads = s.0;
  tidy = subst IsTidy (sym s.0) tidy;
  settled = subst (λ (n : Net). SettleAll n budget (faults_of n) records) (sym s.0) s.1;
}

freeze_only : (net last : Net) (budget : ℕ) (r : Record) (rs : List Record) (next : Position) → FreezeLeads net budget r (goes_on next) → Replays budget next rs last → IsAcceptedFrom net budget (r ∷ rs) last
freeze_only net last budget r rs next (inl h) l = let e = h.1.1 in cc
freeze_only net last budget r rs next (inr h) l = frozen net last budget (r ∷ rs) h.0 (settle_case net last budget (faults_of net) r rs next (λ gs m. settle_only net last budget gs rs m) h.1 l)

step_only : (net last : Net) (budget : ℕ) (s : Step) (tree : List Item) (rs : List Record) (next : Position) → ((n : Net) → Replays budget (editing n) rs last → IsAcceptedFrom n budget rs last)
    → StepLeads net s tree (goes_on next) → Replays budget next rs last → IsAcceptedFrom net budget (kept.Step s tree ∷ rs) last
step_only net last budget s tree rs next ih (inl h) l = let e = h.1.1 in cc
step_only net last budget s tree rs next ih (inr (inl h)) l = let e = h.1.1.1 in cc
step_only net last budget s tree rs next ih (inr (inr h)) l =
    let rest = ih (stepped net s) (subst (λ (p : Position). Replays budget p rs last) (position_of next (editing (stepped net s)) h.1) l) in
    record {
      steps = kept.Step s tree ∷ rest.steps;
      verdicts = rest.verdicts;
      parts = ap (λ (xs : List Record). kept.Step s tree ∷ xs) rest.parts;
      leads = (h.0, rest.leads);
      tidy = rest.tidy;
      settled = rest.settled;
    }

end_only : (net last : Net) (budget : ℕ) → EndLeads (editing net) (goes_on (settling last [])) → IsAcceptedFrom net budget [] last
end_only net last budget (inl h) = let e = h.1.1 in cc
end_only net last budget (inr h) =
    let e = last_only net last (faults_of net) h.1 in
    frozen net last budget [] h.0 (e.0, subst (λ (gs : List Fault). SettleAll net budget gs []) (sym e.1) tt)

pub replays_only : (budget : ℕ) (last : Net) (records : List Record) (net : Net) → Replays budget (editing net) records last → IsAcceptedFrom net budget records last
replays_only budget last [] net l = end_only net last budget l
replays_only budget last (kept.Step s tree ∷ rs) net l = step_only net last budget s tree rs l.0 (λ n m. replays_only budget last rs n m) l.1.0 l.1.1
replays_only budget last (kept.Hit f v ∷ rs) net l = freeze_only net last budget (kept.Hit f v) rs l.0 l.1.0 l.1.1
replays_only budget last (kept.Spent f t ∷ rs) net l = freeze_only net last budget (kept.Spent f t) rs l.0 l.1.0 l.1.1

-- verdicts in order are replayed
verdict_leads : (net : Net) (budget : ℕ) (f : Fault) (fs : List Fault) (r : Record) → Settles net budget f r → VerdictLeads net budget (f ∷ fs) r (goes_on (settling net fs))
verdict_leads net budget f fs (kept.Step s tree) h = absurd h
verdict_leads net budget f fs (kept.Hit given vector) h = inr (h.0, inl (h.1, refl))
verdict_leads net budget f fs (kept.Spent given tree) h = inr (h.0, inr (inr (h.1.accepted, (h.1.edges, refl))))

settle_replays : (net : Net) (budget : ℕ) (fs : List Fault) (rs : List Record) → SettleAll net budget fs rs → Replays budget (settling net fs) rs net
settle_replays net budget [] [] h = refl
settle_replays net budget [] (r ∷ rs) h = absurd h
settle_replays net budget (f ∷ fs) [] h = absurd h
settle_replays net budget (f ∷ fs) (r ∷ rs) h = (settling net fs, (verdict_leads net budget f fs r h.0, settle_replays net budget fs rs h.1))

freeze_leads : (net : Net) (budget : ℕ) (r : Record) (f : Fault) (out : Outcome) → Settles net budget f r → FreezeLeads net budget r out → Leads budget (editing net) r out
freeze_leads net budget (kept.Step s tree) f out h l = absurd h
freeze_leads net budget (kept.Hit given vector) f out h l = l
freeze_leads net budget (kept.Spent given tree) f out h l = l

end_case : (net : Net) (budget : ℕ) (fs : List Fault) → SettleAll net budget fs [] → LastLeads net fs (goes_on (settling net []))
end_case net budget [] h = refl
end_case net budget (f ∷ fs) h = absurd h

first_case : (net : Net) (budget : ℕ) (fs : List Fault) (r : Record) (rs : List Record) → faults_of net ≡ fs → IsTidy net → SettleAll net budget fs (r ∷ rs) → Replays budget (editing net) (r ∷ rs) net
first_case net budget [] r rs e tidy h = absurd h
first_case net budget (f ∷ fs) r rs e tidy h = (
  settling net fs,
  (
    freeze_leads net budget r f (goes_on (settling net fs)) h.0
        (inr (tidy, subst (λ (gs : List Fault). VerdictLeads net budget gs r (goes_on (settling net fs))) (sym e) (verdict_leads net budget f fs r h.0))),
    settle_replays net budget fs rs h.1,
  ),
)

freeze_replays : (net : Net) (budget : ℕ) (rs : List Record) → IsTidy net → SettleAll net budget (faults_of net) rs → Replays budget (editing net) rs net
freeze_replays net budget [] tidy h = inr (tidy, end_case net budget (faults_of net) h)
freeze_replays net budget (r ∷ rs) tidy h = first_case net budget (faults_of net) r rs refl tidy h

steps_replay : (budget : ℕ) (last : Net) (verdicts steps : List Record) (net : Net) → AcceptedTo net steps last → Replays budget (editing last) verdicts last → Replays budget (editing net) (steps ++ verdicts) last
steps_replay budget last verdicts [] net l r = subst (λ (n : Net). Replays budget (editing n) verdicts last) l r
steps_replay budget last verdicts (kept.Step s tree ∷ rs) net l r = (editing (stepped net s), (inr (inr (l.0, refl)), steps_replay budget last verdicts rs (stepped net s) l.1 r))
steps_replay budget last verdicts (kept.Hit f v ∷ rs) net l r = absurd l
steps_replay budget last verdicts (kept.Spent f t ∷ rs) net l r = absurd l

pub accepted_replays : (net last : Net) (budget : ℕ) (records : List Record) → IsAcceptedFrom net budget records last → Replays budget (editing net) records last
accepted_replays net last budget records a =
    subst (λ (rs : List Record). Replays budget (editing net) rs last) (sym a.parts) (steps_replay budget last a.verdicts a.steps net a.leads (freeze_replays last budget a.verdicts a.tidy a.settled))
