-- What is wrong with evidence that shows nothing.
use Rattle.std.specs.Prelude.{List, [], length, ℕ, ◌*◌, ◌+◌, ◌-◌, ◌++◌, ◌∷◌, ◌≡◌, ◌≢◌}
use Rattle.equal_evidence.specs.declared.evidence.Evidence.{Evidence}
use Rattle.equal_evidence.specs.declared.evidence.Evidence.TheVariants.{Merged, Plain}
use Rattle.equal_miter.specs.declared.likeness.Likeness.TheVariants.{Differ, Same, Undecided}
use Rattle.gate_net.specs.Faults.{IsTest}
use Rattle.gate_net.specs.Net.{Net}
use Rattle.journal_check.specs.Replaying.{Leads, editing, refused}
use Rattle.journal_check.specs.Verdicts.{edges_of}
use Rattle.journal_check.specs.declared.refusal.JournalRefusal.{JournalRefusal}
use Rattle.journal_text.specs.Runs.{AcceptedTo}
use Rattle.journal_text.specs.declared.record.Record.{Record}
use Rattle.journal_text.specs.declared.record.Record.TheVariants as kept
use Rattle.proof_check.specs.declared.refusal.JudgeRefusal.{JudgeRefusal}
use Rattle.proof_check.specs.declared.refusal.JudgeRefusal.TheVariants.{NoStep, NotOne, Record as OfRecord, SpentShort, Tree, VectorMisses}
use Rattle.refutation.specs.Branches.{AreAcceptedPartial}
use Rattle.refutation.specs.declared.items.Form.TheVariants.{Closed, Partial}
use Rattle.refutation.specs.declared.items.Item.{Item}
use Rattle.refutation_check.specs.FirstRefusal.{IsFirstRefusal}
use Rattle.rm_base.specs.Numbers.{one_number}
use Rattle.rm_base.specs.declared.numbers.Fault.{Fault}

-- the record is a verdict
abbrev pub IsNoStep : Record → Type 0
IsNoStep (kept.Step step tree) = ⊥
IsNoStep (kept.Hit fault vector) = Unit {0}
IsNoStep (kept.Spent fault tree) = Unit {0}

-- the records before this one are accepted
pub record StandsAt (net : Net) (records : List Record) (at : Net) (number : ℕ) (r : Record) : Type 0 where
  pub before : List Record
  pub behind : List Record
  pub parts : records ≡ before ++ r ∷ behind
  pub accepted : AcceptedTo net before at
  pub counts : number ≡ 1 + length before

-- the partial tree is accepted, and has another number of edges
pub record IsShort (net : Net) (fault : Fault) (budget : ℕ) (items : List Item) (edges : ℕ) : Type 0 where
  pub accepted : AreAcceptedPartial net fault items
  pub edges_are : edges ≡ edges_of items
  pub other : edges ≢ budget

-- all steps are accepted, and the last net doesn't observe the constant One alone
pub record EndsElsewhere (net : Net) (records : List Record) : Type 0 where
  pub after : Net
  pub accepted : AcceptedTo net records after
  pub other : after.observed ≢ one_number ∷ []

-- the first thing that is wrong with a run of steps
abbrev pub IsRunFlaw : Net → ℕ → List Record → JudgeRefusal → Type 0
IsRunFlaw net budget records (NoStep number) = (at : Net) × ((r : Record) × (StandsAt net records at number r × IsNoStep r))
IsRunFlaw net budget records (OfRecord j) = (at : Net) × ((r : Record) × (StandsAt net records at j.number r × Leads budget (editing at) r (refused j.why)))
IsRunFlaw net budget records NotOne = EndsElsewhere net records
IsRunFlaw net budget records _ = ⊥

-- what is wrong with a closed tree
abbrev pub IsTreeFlaw : Net → Fault → List Item → JudgeRefusal → Type 0
IsTreeFlaw net fault items (Tree r) = IsFirstRefusal net fault Closed items r
IsTreeFlaw net fault items _ = ⊥

-- and with a vector
abbrev pub IsVectorFlaw : JudgeRefusal → Type 0
IsVectorFlaw VectorMisses = Unit {0}
IsVectorFlaw _ = ⊥

-- and with the tree of a search that spent its budget
abbrev pub IsSpentFlaw : Net → Fault → ℕ → List Item → JudgeRefusal → Type 0
IsSpentFlaw net fault budget items (Tree r) = IsFirstRefusal net fault Partial items r
IsSpentFlaw net fault budget items (SpentShort edges given) = (given ≡ budget) × IsShort net fault budget items edges
IsSpentFlaw net fault budget items _ = ⊥

-- what is wrong with evidence
abbrev pub IsFlaw : Net → Fault → ℕ → Evidence → JudgeRefusal → Type 0
IsFlaw net fault budget (Plain (Same items)) r = IsTreeFlaw net fault items r
IsFlaw net fault budget (Plain (Differ bits)) r = IsVectorFlaw r × (IsTest net fault bits → ⊥)
IsFlaw net fault budget (Plain (Undecided items)) r = IsSpentFlaw net fault budget items r
IsFlaw net fault budget (Merged records) r = IsRunFlaw net budget records r
