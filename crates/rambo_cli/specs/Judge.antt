-- The command `judge A B PROOF`.
use Rattle.std.specs.Prelude.{◌≡◌, ◌<◌, ◌≤◌, ◌^◌, ◌⊎◌, ℕ, List, None, Option, IfSome, IsSomeAnd, length, true}
use Rattle.rm_base.specs.Files.{Files, file_of}
use Rattle.rm_base.specs.Words.{Word}
use Rattle.rm_model.specs.declared.parts.Model.{Model}
use Rattle.blif_format.specs.declared.refusal.Quantity.TheVariants.{Journal as JournalLimit}
use Rattle.equal_evidence.specs.Evidence.{IsProof}
use Rattle.equal_evidence.specs.Shown.{IsEvidenceFor}
use Rattle.equal_evidence.specs.declared.evidence.Evidence.{Evidence}
use Rattle.equal_miter.specs.Equal.{AreComparable}
use Rattle.equal_miter.specs.Refusals.{HaveSameNames}
use Rattle.journal_check.specs.declared.refusal.JournalRefusal.{JournalRefusal}
use Rattle.journal_check.specs.declared.refusal.Why.{Why}
use Rattle.journal_check.specs.declared.refusal.Why.TheVariants as why
use Rattle.proof_check.specs.Refusals.{IsJudgeRefused}
use Rattle.proof_check.specs.declared.refusal.JudgeRefusal.{JudgeRefusal}
use Rattle.proof_check.specs.declared.refusal.JudgeRefusal.TheVariants as judge
use Rattle.cover_decompose.specs.Spelled.{plain_decomposed}
use Rattle.rambo_cli.specs.Contract.{Contract}
use Rattle.rambo_cli.specs.Files.{Holds}
use Rattle.rambo_cli.specs.Pairs.{AreRead, AreUnlike, CanBeCompared, PairFinds}
use Rattle.rambo_cli.specs.Verdicts.{records_in, verdict_of}
use Rattle.rambo_cli.specs.declared.verdict.Verdict.{Verdict}
use Rattle.rambo_cli.specs.declared.work.Done.{Done}
use Rattle.rambo_cli.specs.declared.work.Done.TheVariants.{Judged}
use Rattle.rambo_cli.specs.declared.problem.NameList.{NameList}
use Rattle.rambo_cli.specs.declared.problem.NameList.TheVariants.{Sources, Observed}
use Rattle.rambo_cli.specs.declared.problem.ProofProblem.{ProofProblem}
use Rattle.rambo_cli.specs.declared.problem.ProofProblem.TheVariants as flaw
use Rattle.rambo_cli.specs.declared.problem.Problem.{Problem}
use Rattle.rambo_cli.specs.declared.problem.Problem.TheVariants.{Text, Limit, Missing, Second, Unlike, Proof, Memory}

-- a tree or a vector that is refused, as the refusal of the first record
abbrev pub only_record : Why → JournalRefusal
only_record w = record { number = 1; why = w }

-- the problem that a judged proof ends with
abbrev pub judge_problem : JudgeRefusal → Problem
judge_problem (judge.UnlikeSources at) = Unlike Sources at
judge_problem (judge.UnlikeObserved at) = Unlike Observed at
judge_problem (judge.Text f) = Proof (flaw.Text f)
judge_problem (judge.NoStep number) = Proof (flaw.NoStep number)
judge_problem (judge.Record r) = Proof (flaw.Record r)
judge_problem judge.NotOne = Proof flaw.NotOne
judge_problem (judge.Tree r) = Proof (flaw.Record (only_record (why.Tree r)))
judge_problem judge.VectorMisses = Proof (flaw.Record (only_record why.VectorMisses))
judge_problem (judge.SpentShort edges budget) = Proof (flaw.Record (only_record (why.SpentShort edges budget)))
judge_problem judge.NoMemory = Memory

-- the texts say these models, which have the same names, and PROOF is the text of evidence on them
pub record HasProof (first second proof : Word) (m n : Model) (budget : ℕ) (e : Evidence) (told : Files) : Type 0 where
  pub read : AreRead plain_decomposed first second m n told
  pub names : HaveSameNames m n
  pub proof_is : Holds told proof (λ text. (length text ≤ 2 ^ 62) × IsProof text budget e)
  pub shown : IsEvidenceFor m n budget e

-- that is so, and how many lines of evidence there are, and what it says
pub record HasJudged (first second proof : Word) (count : ℕ) (verdict : Verdict) (told : Files) : Type 0 where
  pub model : Model
  pub other : Model
  pub comparable : AreComparable model other
  pub budget : ℕ
  pub evidence : Evidence
  pub has : HasProof first second proof model other budget evidence told
  pub count_is : count ≡ records_in evidence
  pub verdict_is : verdict ≡ verdict_of budget evidence

abbrev pub JudgeDoes : Word → Word → Word → Option Files → Option Files → Done → Type 0
JudgeDoes first second proof old new (Judged count verdict) = IfSome old (HasJudged first second proof count verdict)
JudgeDoes first second proof old new _ = ⊥

-- both texts can be optimised, and PROOF isn't there
abbrev pub HasNoProof : Word → Word → Word → Files → Type 0
HasNoProof first second proof told = CanBeCompared plain_decomposed first second told × (file_of told proof ≡ None)

-- both texts can be optimised, and PROOF has more than 2^62 bytes
abbrev pub HasLongProof : Word → Word → Word → Files → Type 0
HasLongProof first second proof told = CanBeCompared plain_decomposed first second told × Holds told proof (λ text. 2 ^ 62 < length text)

-- PROOF is there, and isn't longer than is read
abbrev pub IsThere : Word → Files → Type 0
IsThere proof told = Holds told proof (λ text. length text ≤ 2 ^ 62)

-- the text isn't that of evidence on the models, and this is found of it first
pub record IsNoEvidence (m n : Model) (text : List ℕ) (found : ProofProblem) : Type 0 where
  pub refusal : JudgeRefusal
  pub problem : judge_problem refusal ≡ Proof found
  pub first : IsJudgeRefused m n text refusal
  pub none : (budget : ℕ) (e : Evidence) → IsProof text budget e → IsEvidenceFor m n budget e → ⊥

-- that is so of the models that the texts say, and of PROOF
pub record IsRefused (first second proof : Word) (found : ProofProblem) (told : Files) : Type 0 where
  pub model : Model
  pub other : Model
  pub read : AreRead plain_decomposed first second model other told
  pub proof_is : Holds told proof (λ text. (length text ≤ 2 ^ 62) × IsNoEvidence model other text found)

-- the names of the models that the texts say differ first at this place, and PROOF is there
abbrev pub HasUnlike : Word → Word → Word → NameList → ℕ → Files → Type 0
HasUnlike first second proof list at told = AreUnlike plain_decomposed first second list at told × IsThere proof told

-- what is found of the two texts; that PROOF isn't there, or is longer than is read; the first place at which the names differ; the
-- first flaw of PROOF
abbrev pub JudgeFinds : Word → Word → Word → Option Files → Problem → Type 0
JudgeFinds first second proof files (Text kind place) = PairFinds plain_decomposed first second files (Text kind place)
JudgeFinds first second proof files (Limit quantity count) =
    PairFinds plain_decomposed first second files (Limit quantity count)
    ⊎ ((Limit quantity count ≡ Limit JournalLimit 4611686018427387905) × IfSome files (HasLongProof first second proof))
JudgeFinds first second proof files Missing = PairFinds plain_decomposed first second files Missing ⊎ IsSomeAnd files (HasNoProof first second proof)
JudgeFinds first second proof files (Second found) = PairFinds plain_decomposed first second files (Second found)
JudgeFinds first second proof files (Unlike list at) = IfSome files (HasUnlike first second proof list at)
JudgeFinds first second proof files (Proof found) = IfSome files (IsRefused first second proof found)
JudgeFinds first second proof files _ = ⊥

-- both texts can be optimised, their models have the same names, and PROOF is there, whatever it holds
pub record CanBeJudged (first second proof : Word) (told : Files) : Type 0 where
  pub pair : CanBeCompared plain_decomposed first second told
  pub names : (m n : Model) → AreRead plain_decomposed first second m n told → HaveSameNames m n
  pub proof_is : IsThere proof told

-- PROOF is the text of evidence on the models that the texts say
abbrev pub IsProved : Word → Word → Word → Files → Type 0
IsProved first second proof told = (m : Model) × ((n : Model) × ((budget : ℕ) × ((e : Evidence) × HasProof first second proof m n budget e told)))

abbrev pub judge_contract : Word → Word → Word → Contract
judge_contract first second proof = record {
  Does = JudgeDoes first second proof;
  Finds = JudgeFinds first second proof;
  Leaves = λ old new. new ≡ old;
  needs_files = true;
  IsGood = λ files. IsSomeAnd files (IsProved first second proof);
  IsJudged = λ files. IsSomeAnd files (CanBeJudged first second proof);
  IsCompared = λ files. ⊥;
}
