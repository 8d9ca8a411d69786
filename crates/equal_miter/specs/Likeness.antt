-- What deciding whether two models compute the same answers.
use Rattle.std.specs.Prelude.{ℕ}
use Rattle.gate_net.specs.Faults.{IsTest}
use Rattle.gate_net.specs.Net.{Net}
use Rattle.podem.specs.Verdicts.{IsSpent}
use Rattle.refutation.specs.Branches.{AreAccepted}
use Rattle.rm_base.specs.declared.numbers.Fault.{Fault}
use Rattle.rm_model.specs.declared.parts.Model.{Model}
use Rattle.equal_miter.specs.Equal.{DifferBy, SameFunction, models_fault, models_miter}
use Rattle.equal_miter.specs.declared.likeness.Likeness.{Likeness}
use Rattle.equal_miter.specs.declared.likeness.Likeness.TheVariants.{Differ, Same, Undecided}

-- each answer comes with its evidence on the net
abbrev pub IsEvidence : Net → Fault → ℕ → Likeness → Type 0
IsEvidence net fault budget (Same items) = AreAccepted net fault items
IsEvidence net fault budget (Differ bits) = IsTest net fault bits
IsEvidence net fault budget (Undecided items) = IsSpent net fault budget items

-- the models compute the same, with an accepted closed tree of their miter's fault; or they don't, with the values of the sources
-- under which they differ; or a search spent its whole budget
abbrev pub IsLikeness : Model → Model → ℕ → Likeness → Type 0
IsLikeness m n budget (Same items) = AreAccepted (models_miter m n) (models_fault m n) items × SameFunction m n
IsLikeness m n budget (Differ bits) = DifferBy m n bits × (SameFunction m n → ⊥)
IsLikeness m n budget (Undecided items) = IsSpent (models_miter m n) (models_fault m n) budget items

abbrev pub IsDecided : Likeness → Type 0
IsDecided (Undecided items) = ⊥
IsDecided (Same items) = Unit {0}
IsDecided (Differ bits) = Unit {0}
