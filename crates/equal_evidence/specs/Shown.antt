-- What evidence shows: on a net with a fault, and of two models.
use Rattle.std.specs.Prelude.{Bool, List, [], ℕ, ◌∷◌, ◌≡◌}
use Rattle.equal_evidence.specs.declared.evidence.Evidence.{Evidence}
use Rattle.equal_evidence.specs.declared.evidence.Evidence.TheVariants.{Merged, Plain}
use Rattle.equal_miter.specs.Equal.{DifferBy, SameFunction, models_fault, models_miter}
use Rattle.equal_miter.specs.declared.likeness.Likeness.TheVariants.{Differ, Same, Undecided}
use Rattle.gate_net.specs.Faults.{IsTest}
use Rattle.gate_net.specs.Net.{Net}
use Rattle.journal_text.specs.Runs.{AcceptedTo}
use Rattle.journal_text.specs.declared.record.Record.{Record}
use Rattle.refutation.specs.Branches.{AreAccepted, Branch, IsPartial, edges, items_of}
use Rattle.refutation.specs.Facts.{none_held}
use Rattle.refutation.specs.declared.items.Item.{Item}
use Rattle.rm_base.specs.Numbers.{one_number}
use Rattle.rm_base.specs.declared.numbers.Fault.{Fault}
use Rattle.rm_model.specs.declared.parts.Model.{Model}

-- the items are an accepted partial tree of exactly so many edges
pub record IsSpentTree (net : Net) (fault : Fault) (budget : ℕ) (items : List Item) : Type 0 where
  pub tree : Branch
  pub same : items ≡ items_of tree
  pub accepted : IsPartial net fault none_held tree
  pub size : edges tree ≡ budget

-- the records are steps, accepted one after another from the net, and the last net observes the constant One alone
pub record IsSwept (net : Net) (records : List Record) : Type 0 where
  pub after : Net
  pub accepted : AcceptedTo net records after
  pub one : after.observed ≡ one_number ∷ []

-- a closed tree refutes the fault, a vector detects it, a search for such a vector spent its budget, or steps make the net One
abbrev pub IsShown : Net → Fault → ℕ → Evidence → Type 0
IsShown net fault budget (Plain (Same items)) = AreAccepted net fault items
IsShown net fault budget (Plain (Differ bits)) = IsTest net fault bits
IsShown net fault budget (Plain (Undecided items)) = IsSpentTree net fault budget items
IsShown net fault budget (Merged records) = IsSwept net records

-- the models compute the same, by a closed tree of their miter's fault; or they don't, with the values of the sources under which
-- they differ; or a search spent its whole budget; or they compute the same, by steps that make their miter One
abbrev pub IsEvidenceFor : Model → Model → ℕ → Evidence → Type 0
IsEvidenceFor m n budget (Plain (Same items)) = AreAccepted (models_miter m n) (models_fault m n) items × SameFunction m n
IsEvidenceFor m n budget (Plain (Differ bits)) = DifferBy m n bits × (SameFunction m n → ⊥)
IsEvidenceFor m n budget (Plain (Undecided items)) = IsSpentTree (models_miter m n) (models_fault m n) budget items
IsEvidenceFor m n budget (Merged records) = IsSwept (models_miter m n) records × SameFunction m n
