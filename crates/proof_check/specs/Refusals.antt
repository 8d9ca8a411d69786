-- Why the text of a proof on two models is refused.
use Rattle.std.specs.Prelude.{List, Some, ℕ, ◌≡◌}
use Rattle.equal_evidence.specs.Evidence.{IsProof}
use Rattle.equal_evidence.specs.declared.evidence.Evidence.{Evidence}
use Rattle.equal_miter.specs.Equal.{models_fault, models_miter}
use Rattle.equal_miter.specs.Refusals.{first_difference}
use Rattle.rm_model.specs.Value.{observed_names, source_names}
use Rattle.rm_model.specs.declared.parts.Model.{Model}
use Rattle.proof_check.specs.Flaws.{IsFlaw}
use Rattle.proof_check.specs.declared.refusal.JudgeRefusal.{JudgeRefusal}
use Rattle.proof_check.specs.declared.refusal.JudgeRefusal.TheVariants.{NoMemory, Text, UnlikeObserved, UnlikeSources}

-- no budget and evidence has that text
abbrev pub IsNoProof : List ℕ → Type 0
IsNoProof text = (budget : ℕ) (e : Evidence) → IsProof text budget e → ⊥

-- the text is that of a budget and evidence, which is wrong so
pub record HasFlaw (m n : Model) (text : List ℕ) (r : JudgeRefusal) : Type 0 where
  pub budget : ℕ
  pub evidence : Evidence
  pub says : IsProof text budget evidence
  pub flaw : IsFlaw (models_miter m n) (models_fault m n) budget evidence r

-- the first list of names that differs, and where; then a text that is no proof; then what is wrong with its evidence; want of
-- memory may come at any models and any text
abbrev pub IsJudgeRefused : Model → Model → List ℕ → JudgeRefusal → Type 0
IsJudgeRefused m n text (UnlikeSources at) = first_difference (source_names m) (source_names n) ≡ Some at
IsJudgeRefused m n text (UnlikeObserved at) = (source_names m ≡ source_names n) × (first_difference (observed_names m) (observed_names n) ≡ Some at)
IsJudgeRefused m n text (Text f) = IsNoProof text
IsJudgeRefused m n text NoMemory = Unit {0}
IsJudgeRefused m n text r = HasFlaw m n text r

-- the refusal is one of the text or its evidence
abbrev pub IsOfText : JudgeRefusal → Type 0
IsOfText (UnlikeSources at) = ⊥
IsOfText (UnlikeObserved at) = ⊥
IsOfText NoMemory = ⊥
IsOfText _ = Unit {0}
