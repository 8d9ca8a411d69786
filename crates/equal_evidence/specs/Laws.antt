-- Laws of evidence.
use Rattle.std.specs.Prelude.{List, ℕ, ◌↔◌, ◌≡◌}
use Rattle.equal_evidence.specs.Evidence.{IsProof, IsWritable}
use Rattle.equal_evidence.specs.Shown.{IsEvidenceFor, IsShown, IsSwept}
use Rattle.equal_evidence.specs.declared.evidence.Evidence.{Evidence}
use Rattle.equal_evidence.specs.declared.evidence.Evidence.TheVariants.{Plain}
use Rattle.equal_miter.specs.Equal.{AreComparable, SameFunction, models_fault, models_miter}
use Rattle.equal_miter.specs.Likeness.{IsLikeness}
use Rattle.equal_miter.specs.declared.likeness.Likeness.{Likeness}
use Rattle.gate_net.specs.Net.{IsWellFormed}
use Rattle.journal_text.specs.declared.record.Record.{Record}
use Rattle.rm_model.specs.declared.parts.Model.{Model}

-- models whose miter is swept to One compute the same
abbrev pub SweptMeansSame : Type 0
SweptMeansSame = (m n : Model) (records : List Record) → AreComparable m n → IsWellFormed (models_miter m n) → IsSwept (models_miter m n) records → SameFunction m n

-- what is shown on the miter of two models is evidence of them, and no other is
abbrev pub EvidenceIsShown : Type 0
EvidenceIsShown =
    (m n : Model) (budget : ℕ) (e : Evidence) → AreComparable m n → IsWellFormed (models_miter m n)
    → IsShown (models_miter m n) (models_fault m n) budget e ↔ IsEvidenceFor m n budget e

-- what deciding answers is evidence
abbrev pub LikenessesAreEvidence : Type 0
LikenessesAreEvidence = (m n : Model) (budget : ℕ) (l : Likeness) → IsLikeness m n budget l → IsEvidenceFor m n budget (Plain l)

-- a text is that of one budget and one evidence at most
abbrev pub ProofsAreOne : Type 0
ProofsAreOne = (text : List ℕ) (b c : ℕ) (e d : Evidence) → IsProof text b e → IsProof text c d → (b ≡ c) × (e ≡ d)

-- the evidence of a text can be written
abbrev pub ProofsAreWritable : Type 0
ProofsAreWritable = (text : List ℕ) (budget : ℕ) (e : Evidence) → IsProof text budget e → IsWritable e
