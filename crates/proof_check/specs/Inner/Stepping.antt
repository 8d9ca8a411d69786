-- Replaying steps one after another.
use Rattle.std.specs.Prelude.{List, None, take, ℕ, ◌+◌, ◌≡◌}
use Rattle.gate_net.specs.Net.{Net}
use Rattle.journal_check.specs.Replaying.{Leads, editing, next_number, refused}
use Rattle.journal_check.specs.Standing.{Standing}
use Rattle.journal_check.specs.declared.refusal.JournalRefusal.{JournalRefusal}
use Rattle.journal_check.specs.declared.refusal.Why.TheVariants as why
use Rattle.journal_text.specs.Accepted.{IsAcceptedStep}
use Rattle.journal_text.specs.Runs.{AcceptedTo}
use Rattle.journal_text.specs.declared.record.Record.{Record}
use Rattle.journal_text.specs.declared.record.Record.TheVariants as kept
use Rattle.proof_check.specs.Flaws.{IsNoStep}
use Rattle.proof_check.specs.declared.refusal.JudgeRefusal.{JudgeRefusal}
use Rattle.proof_check.specs.declared.refusal.JudgeRefusal.TheVariants.{NoStep, Record as OfRecord}
use Rattle.wire_edit.specs.Steps.{stepped}

-- a replay that refused nothing, at a net, before the record of that number
abbrev pub standing : Net → ℕ → ℕ → Standing
standing net budget number = record { position = editing net; budget = budget; number = number; refusal = None }

-- the record is a step, which is accepted and made
abbrev pub Advances : Net → ℕ → ℕ → Record → Standing → Type 0
Advances net budget number (kept.Step s tree) new = IsAcceptedStep net s tree × (new ≡ standing (stepped net s) budget (next_number number))
Advances net budget number _ new = ⊥

-- or it is refused
abbrev pub IsStepFlaw : Net → ℕ → ℕ → Record → JudgeRefusal → Type 0
IsStepFlaw net budget number r (NoStep n) = (n ≡ number) × IsNoStep r
IsStepFlaw net budget number r (OfRecord j) = (j.number ≡ number) × Leads budget (editing net) r (refused j.why)
IsStepFlaw net budget number r _ = ⊥

-- so many records were accepted steps from the net
pub record IsGoing (net : Net) (budget : ℕ) (records : List Record) (k : ℕ) (s : Standing) : Type 0 where
  pub at : Net
  pub accepted : AcceptedTo net (take k records) at
  pub stands : s ≡ standing at budget (k + 1)

-- all records were accepted steps from the net
pub record HasGone (net : Net) (records : List Record) (s : Standing) : Type 0 where
  pub at : Net
  pub accepted : AcceptedTo net records at
  pub stands : s.position ≡ editing at
