-- Records are replayed one after another.
use Rattle.std.proofs.Common.{◌≡◌, ℕ, suc, ◌+◌, List, [], ◌∷◌, ◌++◌, length, refl, subst, inl, inr, arith}
use Rattle.gate_net.specs.Net.{Net}
use Rattle.refutation_check.specs.Laws.{AcceptedAreNotRefused, RefusalsAgree}
use Rattle.wire_edit.specs.declared.steps.Step.TheVariants as step
use Rattle.journal_text.specs.declared.record.Record.{Record}
use Rattle.journal_text.specs.declared.record.Record.TheVariants as kept
use Rattle.journal_text.specs.Text.{IsWritableRecord}
use Rattle.journal_check.specs.declared.refusal.Why.{Why}
use Rattle.journal_check.specs.Laws.{RecordsReplay}
use Rattle.journal_check.specs.Replaying.{EndLeads, IsLocalTree, IsRefusedAt, LeadOn, Leads, Position, Replays, goes_on, refused, settling}
use Rattle.journal_check.proofs.OutcomeLaws.{end_once, leads_once}

-- a record that can be written has no tree where it needs none
local : (r : Record) → IsWritableRecord r → IsLocalTree r
local (kept.Step (step.Add gate node) tree) w = tt
local (kept.Step (step.Fix gate position value) tree) w = tt
local (kept.Step (step.NewNot node) tree) w = w
local (kept.Step (step.Const gate position) tree) w = w
local (kept.Step (step.Same gate position) tree) w = w
local (kept.Step (step.NoPins gate) tree) w = w
local (kept.Step (step.OnePin gate) tree) w = w
local (kept.Step (step.Twice gate) tree) w = w
local (kept.Step (step.Twin gate other) tree) w = w
local (kept.Step (step.Dead gate) tree) w = w
local (kept.Hit f v) w = tt
local (kept.Spent f t) w = tt

more : (budget : ℕ) (p q next : Position) (records : List Record) (r : Record) → LeadOn budget p records q → Leads budget q r (goes_on next) → LeadOn budget p (records ++ r ∷ []) next
more budget p q next [] r l h = (next, (subst (λ (x : Position). Leads budget x r (goes_on next)) l h, refl))
more budget p q next (s ∷ records) r l h = (l.0, (l.1.0, more budget l.0 q next records r l.1.1 h))

ends : (budget : ℕ) (p q : Position) (records : List Record) (last : Net) → LeadOn budget p records q → EndLeads q (goes_on (settling last [])) → Replays budget p records last
ends budget p q [] last l h = subst (λ (x : Position). EndLeads x (goes_on (settling last []))) l h
ends budget p q (s ∷ records) last l h = (l.0, (l.1.0, ends budget l.0 q records last l.1.1 h))

-- the number of the record, if the first is numbered n
refuses_from : (budget : ℕ) (p q : Position) (records behind : List Record) (n : ℕ) (r : Record) (w : Why) → LeadOn budget p records q → Leads budget q r (refused w) → IsRefusedAt budget p (records ++ r ∷ behind) n (n + length records) w
refuses_from budget p q [] behind n r w l h = inl (omega arith, subst (λ (x : Position). Leads budget x r (refused w)) l h)
refuses_from budget p q (s ∷ records) behind n r w l h =
    let rest = refuses_from budget l.0 q records behind (suc n) r w l.1.1 h in
    let same : suc n + length records ≡ n + suc (length records) = omega arith in
    inr (l.0, (l.1.0, subst (λ (k : ℕ). IsRefusedAt budget l.0 (records ++ r ∷ behind) (suc n) k w) same rest))

refuses_end_from : (budget : ℕ) (p q : Position) (records : List Record) (n : ℕ) (w : Why) → LeadOn budget p records q → EndLeads q (refused w) → IsRefusedAt budget p records n (n + length records) w
refuses_end_from budget p q [] n w l h = (omega arith, subst (λ (x : Position). EndLeads x (refused w)) l h)
refuses_end_from budget p q (s ∷ records) n w l h =
    let rest = refuses_end_from budget l.0 q records (suc n) w l.1.1 h in
    let same : suc n + length records ≡ n + suc (length records) = omega arith in
    inr (l.0, (l.1.0, subst (λ (k : ℕ). IsRefusedAt budget l.0 records (suc n) k w) same rest))

on_same : (p q : Position) → goes_on p ≡ goes_on q → p ≡ q
on_same p q e = cc

last_same : (net other : Net) → goes_on (settling net []) ≡ goes_on (settling other []) → net ≡ other
last_same net other e = cc

on_never : (p : Position) (w : Why) → goes_on p ≡ refused w → ⊥
on_never p w e = cc

module _ (none : AcceptedAreNotRefused) (one : RefusalsAgree) where
  never : (budget : ℕ) (p : Position) (records behind : List Record) (last : Net) (r : Record) (q : Position) (w : Why) → LeadOn budget p records q → Leads budget q r (refused w) → Replays budget p (records ++ r ∷ behind) last → ⊥
  never budget p [] behind last r q w l h x = on_never x.0 w (leads_once none one budget p r (goes_on x.0) (refused w) x.1.0 (subst (λ (y : Position). Leads budget y r (refused w)) l h))
  never budget p (s ∷ records) behind last r q w l h x =
      let same : x.0 ≡ l.0 = on_same x.0 l.0 (leads_once none one budget p s (goes_on x.0) (goes_on l.0) x.1.0 l.1.0) in
      never budget l.0 records behind last r q w l.1.1 h (subst (λ (y : Position). Replays budget y (records ++ r ∷ behind) last) same x.1.1)

  never_end : (budget : ℕ) (p : Position) (records : List Record) (last : Net) (q : Position) (w : Why) → LeadOn budget p records q → EndLeads q (refused w) → Replays budget p records last → ⊥
  never_end budget p [] last q w l h x = on_never (settling last []) w (end_once none one p (goes_on (settling last [])) (refused w) x (subst (λ (y : Position). EndLeads y (refused w)) l h))
  never_end budget p (s ∷ records) last q w l h x =
      let same : x.0 ≡ l.0 = on_same x.0 l.0 (leads_once none one budget p s (goes_on x.0) (goes_on l.0) x.1.0 l.1.0) in
      never_end budget l.0 records last q w l.1.1 h (subst (λ (y : Position). Replays budget y records last) same x.1.1)

  one_last : (budget : ℕ) (p : Position) (records : List Record) (last other : Net) → Replays budget p records last → Replays budget p records other → last ≡ other
  one_last budget p [] last other h i = last_same last other (end_once none one p (goes_on (settling last [])) (goes_on (settling other [])) h i)
  one_last budget p (r ∷ records) last other h i =
      let same : h.0 ≡ i.0 = on_same h.0 i.0 (leads_once none one budget p r (goes_on h.0) (goes_on i.0) h.1.0 i.1.0) in
      one_last budget i.0 records last other (subst (λ (y : Position). Replays budget y records last) same h.1.1) i.1.1

pub records_replay : AcceptedAreNotRefused → RefusalsAgree → RecordsReplay
records_replay none one = record {
  local = local;
  more = more;
  ends = ends;
  refuses = λ budget p q records behind r w l h. refuses_from budget p q records behind 1 r w l h;
  refuses_end = λ budget p q records w l h. refuses_end_from budget p q records 1 w l h;
  never = never none one;
  never_end = never_end none one;
  one = one_last none one;
}
