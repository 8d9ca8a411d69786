-- What each record of a journal leads to, and where it is refused.
use Rattle.std.specs.Prelude.{◌≡◌, ◌≢◌, ℕ, suc, ◌+◌, ◌-◌, ◌^◌, min, Bool, not, List, [], ◌∷◌, Some, None, ◌⊎◌}
use Rattle.rm_base.specs.declared.numbers.Fault.{Fault}
use Rattle.gate_net.specs.Net.{Net}
use Rattle.gate_net.specs.Edits.{last_pin}
use Rattle.refutation.specs.declared.items.Form.TheVariants.{Closed, Partial}
use Rattle.refutation.specs.declared.items.Item.{Item}
use Rattle.refutation_check.specs.FirstRefusal.{IsAcceptedAs, IsFirstRefusal}
use Rattle.refutation_check.specs.declared.refusals.CheckRefusal.{CheckRefusal}
use Rattle.wire_edit.specs.declared.steps.Step.{Step}
use Rattle.wire_edit.specs.declared.steps.Step.TheVariants as step
use Rattle.wire_edit.specs.declared.room.Room.{Room}
use Rattle.wire_edit.specs.declared.refusal.EditRefusal.{EditRefusal}
use Rattle.wire_edit.specs.Tests.{control_of}
use Rattle.wire_edit.specs.Steps.{gate_of_step, stepped}
use Rattle.wire_edit.specs.Order.{next_step, IsTidy}
use Rattle.wire_edit.specs.Refusals.{IsAnswer}
use Rattle.journal_text.specs.declared.record.Record.{Record}
use Rattle.journal_text.specs.declared.record.Record.TheVariants as kept
use Rattle.journal_text.specs.Accepted.{IsAcceptedStep}
use Rattle.journal_check.specs.declared.refusal.Why.{Why}
use Rattle.journal_check.specs.declared.refusal.Why.TheVariants as why
use Rattle.gate_net.specs.Faults.{faults_of, IsTest}
use Rattle.journal_check.specs.Verdicts.{edges_of}

-- the records so far led to that net; or it is frozen, and these faults are still to come
pub data Position : Type 0 where
  editing : Net → Position
  settling : Net → List Fault → Position

pub data Outcome : Type 0 where
  goes_on : Position → Outcome
  refused : Why → Outcome

-- room for one pin, one node and one step
abbrev pub one_each : Room
one_each = record { pins = 1; nodes = 1; steps = 1 }

-- the first refusal of the tree that is to justify the step
abbrev pub RefusesTree : Net → Step → List Item → CheckRefusal → Type 0
RefusesTree net (step.Add gate node) tree r =
    (c : Bool) × ((control_of net gate.0 ≡ Some c) × IsFirstRefusal (stepped net (step.Add gate node)) (last_pin net gate.0 (not c)) Closed tree r)
RefusesTree net (step.Fix gate position value) tree r = IsFirstRefusal net (record { gate = gate; position = position; value = value }) Closed tree r
RefusesTree net _ tree r = ⊥

-- a step: it isn't possible, or its tree isn't accepted, or it is accepted
abbrev pub StepLeads : Net → Step → List Item → Outcome → Type 0
StepLeads net s tree out =
    ((e : EditRefusal) × (IsAnswer net one_each s (Some e) × (out ≡ refused (why.Edit e))))
    ⊎ ((IsAnswer net one_each s None × ((r : CheckRefusal) × (RefusesTree net s tree r × (out ≡ refused (why.Tree r)))))
    ⊎ (IsAcceptedStep net s tree × (out ≡ goes_on (editing (stepped net s)))))

-- at the expected fault: a hit that detects it, or a spent tree of exactly budget edges
abbrev pub HitLeads : Net → Fault → List Fault → List Bool → Outcome → Type 0
HitLeads net f fs vector out =
    (IsTest net f vector × (out ≡ goes_on (settling net fs))) ⊎ ((IsTest net f vector → ⊥) × (out ≡ refused why.VectorMisses))

abbrev pub SpentLeads : Net → ℕ → Fault → List Fault → List Item → Outcome → Type 0
SpentLeads net budget f fs tree out =
    ((r : CheckRefusal) × (IsFirstRefusal net f Partial tree r × (out ≡ refused (why.Tree r))))
    ⊎ ((IsAcceptedAs Partial net f tree × ((edges_of tree ≢ budget) × (out ≡ refused (why.SpentShort (edges_of tree) budget))))
    ⊎ (IsAcceptedAs Partial net f tree × ((edges_of tree ≡ budget) × (out ≡ goes_on (settling net fs)))))

-- the record is to be that of the next fault
abbrev pub VerdictLeads : Net → ℕ → List Fault → Record → Outcome → Type 0
VerdictLeads net budget [] r out = out ≡ refused why.RecordExtra
VerdictLeads net budget (f ∷ fs) (kept.Step s tree) out = out ≡ refused (why.FaultMissing f)
VerdictLeads net budget (f ∷ fs) (kept.Hit given vector) out =
    ((given ≢ f) × (out ≡ refused (why.FaultMissing f))) ⊎ ((given ≡ f) × HitLeads net f fs vector out)
VerdictLeads net budget (f ∷ fs) (kept.Spent given tree) out =
    ((given ≢ f) × (out ≡ refused (why.FaultMissing f))) ⊎ ((given ≡ f) × SpentLeads net budget f fs tree out)

-- the net is frozen, if it is tidy
abbrev pub FreezeLeads : Net → ℕ → Record → Outcome → Type 0
FreezeLeads net budget r out =
    ((s : Step) × ((next_step net ≡ Some s) × (out ≡ refused (why.NotTidy (gate_of_step s))))) ⊎ (IsTidy net × VerdictLeads net budget (faults_of net) r out)

-- what a record leads to
abbrev pub Leads : ℕ → Position → Record → Outcome → Type 0
Leads budget (editing net) (kept.Step s tree) out = StepLeads net s tree out
Leads budget (editing net) (kept.Hit fault vector) out = FreezeLeads net budget (kept.Hit fault vector) out
Leads budget (editing net) (kept.Spent fault tree) out = FreezeLeads net budget (kept.Spent fault tree) out
Leads budget (settling net fs) r out = VerdictLeads net budget fs r out

-- at the end no fault is still to come
abbrev pub LastLeads : Net → List Fault → Outcome → Type 0
LastLeads net [] out = out ≡ goes_on (settling net [])
LastLeads net (f ∷ fs) out = out ≡ refused (why.FaultMissing f)

-- what the end leads to: the last net, or a refusal
abbrev pub EndLeads : Position → Outcome → Type 0
EndLeads (editing net) out =
    ((s : Step) × ((next_step net ≡ Some s) × (out ≡ refused (why.NotTidy (gate_of_step s))))) ⊎ (IsTidy net × LastLeads net (faults_of net) out)
EndLeads (settling net fs) out = LastLeads net fs out

-- records, one after another, lead from one position to another
abbrev pub LeadOn : ℕ → Position → List Record → Position → Type 0
LeadOn budget p [] q = q ≡ p
LeadOn budget p (r ∷ rs) q = (next : Position) × (Leads budget p r (goes_on next) × LeadOn budget next rs q)

-- records, one after another, lead to a last net
abbrev pub Replays : ℕ → Position → List Record → Net → Type 0
Replays budget p [] last = EndLeads p (goes_on (settling last []))
Replays budget p (r ∷ rs) last = (next : Position) × (Leads budget p r (goes_on next) × Replays budget next rs last)

-- or one of them, numbered from n, is refused, or the end is
abbrev pub IsRefusedAt : ℕ → Position → List Record → ℕ → ℕ → Why → Type 0
IsRefusedAt budget p [] n number w = (number ≡ n) × EndLeads p (refused w)
IsRefusedAt budget p (r ∷ rs) n number w =
    ((number ≡ n) × Leads budget p r (refused w)) ⊎ ((next : Position) × (Leads budget p r (goes_on next) × IsRefusedAt budget next rs (suc n) number w))

-- the number of the next record, or the last number of 64 bits again
abbrev pub next_number : ℕ → ℕ
next_number n = min (n + 1) (2 ^ 64 - 1)

abbrev pub IsLocalTree : Record → Type 0
IsLocalTree (kept.Step (step.Add gate node) tree) = Unit {0}
IsLocalTree (kept.Step (step.Fix gate position value) tree) = Unit {0}
IsLocalTree (kept.Step s tree) = tree ≡ []
IsLocalTree _ = Unit {0}

-- a local step has no tree
abbrev pub IsStepTree : Step → List Item → Type 0
IsStepTree (step.Add gate node) tree = Unit {0}
IsStepTree (step.Fix gate position value) tree = Unit {0}
IsStepTree _ tree = tree ≡ []
