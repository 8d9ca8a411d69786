-- The command `equal A B PROOF`.
use Rattle.std.specs.Prelude.{◌≡◌, ◌<◌, ◌≤◌, ◌+◌, ◌^◌, ◌⊎◌, ℕ, Option, IfSome, IsSomeAnd, length, take, true}
use Rattle.rm_base.specs.Files.{Files, put_file}
use Rattle.rm_base.specs.Words.{Word}
use Rattle.rm_base.specs.declared.settings.Settings.{Settings}
use Rattle.rm_model.specs.Value.{source_names}
use Rattle.rm_model.specs.declared.parts.Model.{Model}
use Rattle.equal_evidence.specs.Evidence.{IsWritten, evidence_text}
use Rattle.equal_evidence.specs.Shown.{IsEvidenceFor}
use Rattle.equal_evidence.specs.declared.evidence.Evidence.{Evidence}
use Rattle.equal_miter.specs.Equal.{AreComparable}
use Rattle.equal_sweep.specs.Decided.{IsDecided}
use Rattle.cover_decompose.specs.Spelled.{plain_decomposed}
use Rattle.rambo_cli.specs.Contract.{Contract}
use Rattle.rambo_cli.specs.Files.{Holds, IfTold}
use Rattle.rambo_cli.specs.Judge.{IsProved}
use Rattle.rambo_cli.specs.Pairs.{AreRead, AreUnlike, CanBeCompared, PairFinds}
use Rattle.rambo_cli.specs.Verdicts.{verdict_of}
use Rattle.rambo_cli.specs.declared.work.Done.{Done}
use Rattle.rambo_cli.specs.declared.work.Done.TheVariants.{Compared}
use Rattle.rambo_cli.specs.declared.problem.Problem.{Problem}
use Rattle.rambo_cli.specs.declared.problem.Problem.TheVariants.{Unlike}

-- what is shown of two models: never open where the budget allows 2^(n+1) edges, n being the number of sources; PROOF holds the text
-- of that, which says nothing else, and all other files are as before
pub record HasDecided (m n : Model) (proof : Word) (settings : Settings) (e : Evidence) (old new : Files) : Type 0 where
  pub comparable : AreComparable m n
  pub evidence : IsEvidenceFor m n settings.budget e
  pub written : IsWritten e
  pub decided : 2 ^ (length (source_names m) + 1) ≤ settings.budget → IsDecided e
  pub files : new ≡ put_file proof (evidence_text settings.budget e) old

-- that is so of the models that the texts say
pub record HasCompared (first second proof : Word) (settings : Settings) (e : Evidence) (old new : Files) : Type 0 where
  pub model : Model
  pub other : Model
  pub read : AreRead plain_decomposed first second model other old
  pub decided : HasDecided model other proof settings e old new

-- over these files `judge A B PROOF` is good, or PROOF is longer than it reads
abbrev pub IsJudgedOver : Word → Word → Word → Files → Type 0
IsJudgedOver first second proof told = IsProved first second proof told ⊎ Holds told proof (λ text. 2 ^ 62 < length text)

-- that is so, and of the files `judge`
abbrev pub HasComparedWell : Word → Word → Word → Settings → Evidence → Files → Files → Type 0
HasComparedWell first second proof settings e old new = HasCompared first second proof settings e old new × IsJudgedOver first second proof new

-- and what the evidence says is printed
abbrev pub EqualDoes : Word → Word → Word → Settings → Option Files → Option Files → Done → Type 0
EqualDoes first second proof settings old new (Compared verdict) =
    (e : Evidence) × ((verdict ≡ verdict_of settings.budget e) × IfTold old new (HasComparedWell first second proof settings e))
EqualDoes first second proof settings old new _ = ⊥

-- what is found of the two texts; or the first place at which the names differ
abbrev pub EqualFinds : Word → Word → Option Files → Problem → Type 0
EqualFinds first second files (Unlike list at) = IfSome files (AreUnlike plain_decomposed first second list at)
EqualFinds first second files problem = PairFinds plain_decomposed first second files problem

-- nothing has changed, or PROOF holds a beginning of what is written for the models that the texts say
pub record BeginsCompared (first second proof : Word) (settings : Settings) (old new : Files) : Type 0 where
  pub e : Evidence
  pub whole : Files
  pub compared : HasCompared first second proof settings e old whole
  pub size : ℕ
  pub files : new ≡ put_file proof (take size (evidence_text settings.budget e)) old

abbrev pub BeginsToCompare : Word → Word → Word → Settings → Files → Files → Type 0
BeginsToCompare first second proof settings old new = (new ≡ old) ⊎ BeginsCompared first second proof settings old new

abbrev pub equal_contract : Word → Word → Word → Settings → Contract
equal_contract first second proof settings = record {
  Does = EqualDoes first second proof settings;
  Finds = EqualFinds first second;
  Leaves = λ old new. IfTold old new (BeginsToCompare first second proof settings);
  needs_files = true;
  IsGood = λ files. ⊥;
  IsJudged = λ files. ⊥;
  IsCompared = λ files. IsSomeAnd files (CanBeCompared plain_decomposed first second);
}
