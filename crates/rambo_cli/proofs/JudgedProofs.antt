-- From what is found of two texts and of a proof to what `judge` says of them.
use Rattle.std.proofs.Common.{◌≡◌, ◌<◌, ◌≤◌, ◌+◌, ◌^◌, ◌∙◌, ℕ, List, take, length, refl, subst, inl, inr, arith, length-take}
use Rattle.std.specs.Prelude.{Option, None, Some, IfSome, IsSomeAnd}
use Rattle.rm_base.specs.Files.{Files, file_of}
use Rattle.rm_base.specs.Words.{Word}
use Rattle.rm_model.specs.declared.parts.Model.{Model}
use Rattle.blif_format.specs.Laws.{ReadsOnce}
use Rattle.equal_evidence.specs.Evidence.{IsProof}
use Rattle.equal_evidence.specs.Shown.{IsEvidenceFor}
use Rattle.equal_evidence.specs.declared.evidence.Evidence.{Evidence}
use Rattle.equal_miter.specs.Equal.{AreComparable}
use Rattle.proof_check.specs.Refusals.{IsJudgeRefused, IsOfText}
use Rattle.proof_check.specs.declared.refusal.JudgeRefusal.{JudgeRefusal}
use Rattle.proof_check.specs.declared.refusal.JudgeRefusal.TheVariants as judge
use Rattle.cover_decompose.specs.Spelled.{plain_decomposed}
use Rattle.rambo_cli.specs.Contract.{Caused}
use Rattle.rambo_cli.specs.Files.{Holds}
use Rattle.rambo_cli.specs.Judge.{HasJudged, HasLongProof, HasNoProof, HasUnlike, IsNoEvidence, IsRefused, JudgeFinds, judge_problem}
use Rattle.rambo_cli.specs.Pairs.{AreRead, PairFinds}
use Rattle.rambo_cli.specs.Verdicts.{records_in, verdict_of}
use Rattle.rambo_cli.specs.Inner.Judge.{IsRefusedFor, ProofFinds}
use Rattle.rambo_cli.specs.declared.verdict.Verdict.{Verdict}
use Rattle.rambo_cli.specs.declared.problem.NameList.{NameList}
use Rattle.rambo_cli.specs.declared.problem.ProofProblem.{ProofProblem}
use Rattle.rambo_cli.specs.declared.problem.Problem.{Problem}
use Rattle.rambo_cli.specs.declared.problem.Problem.TheVariants.{Words, Text, Limit, Missing, Fault, Journal, Record, Netlist, Second, Unlike, CareShape, Window, Proof, Memory}
use Rattle.rambo_cli.proofs.TextsFound.{pair_good, weaker}
use Rattle.rambo_cli.proofs.Pieces.{held, shorter}
use Rattle.rambo_cli.proofs.Rising.{risen_after}

-- what a read of one byte more than a proof may have says of the file
whole : (most : ℕ) (text bytes : List ℕ) → length text ≤ most → text ≡ take (most + 1) bytes → (length bytes ≤ most) × (text ≡ bytes)
whole most text bytes short is =
    let same : text ≡ bytes = is ∙ shorter most bytes (subst (λ (t : List ℕ). length t ≤ most) is short) in
    (subst (λ (t : List ℕ). length t ≤ most) same short, same)

above : (most : ℕ) (text bytes : List ℕ) → most < length text → text ≡ take (most + 1) bytes → most < length bytes
above most text bytes long is =
    let size : most < length (take (most + 1) bytes) = subst (λ (t : List ℕ). most < length t) is long in
    omega (arith, size, length-take (most + 1) bytes)

-- a proof that is read is the whole file
pub proof_whole : (most : ℕ) (text : List ℕ) (files : Option Files) (name : Word) → length text ≤ most → IfSome files (λ told. Holds told name (λ bytes. text ≡ take (most + 1) bytes))
    → IfSome files (λ told. Holds told name (λ bytes. (length bytes ≤ most) × (text ≡ bytes)))
proof_whole most text files name short found = held (λ bytes. text ≡ take (most + 1) bytes) (λ bytes. (length bytes ≤ most) × (text ≡ bytes)) (λ bytes is. whole most text bytes short is) files name found

pub proof_above : (most : ℕ) (text : List ℕ) (files : Option Files) (name : Word) → most < length text → IfSome files (λ told. Holds told name (λ bytes. text ≡ take (most + 1) bytes))
    → IfSome files (λ told. Holds told name (λ bytes. most < length bytes))
proof_above most text files name long found = held (λ bytes. text ≡ take (most + 1) bytes) (λ bytes. most < length bytes) (λ bytes is. above most text bytes long is) files name found

-- why a text isn't that of evidence
pub refused_for : (m n : Model) (text : List ℕ) (r : JudgeRefusal) → IsJudgeRefused m n text r → (IsOfText r → (budget : ℕ) (e : Evidence) → IsProof text budget e → IsEvidenceFor m n budget e → ⊥) → IsRefusedFor m n text (judge_problem r)
refused_for m n text (judge.UnlikeSources at) first none = first
refused_for m n text (judge.UnlikeObserved at) first none = first
refused_for m n text (judge.Text f) first none = record { refusal = judge.Text f; problem = refl; first = first; none = none tt }
refused_for m n text (judge.NoStep number) first none = record { refusal = judge.NoStep number; problem = refl; first = first; none = none tt }
refused_for m n text (judge.Record r) first none = record { refusal = judge.Record r; problem = refl; first = first; none = none tt }
refused_for m n text judge.NotOne first none = record { refusal = judge.NotOne; problem = refl; first = first; none = none tt }
refused_for m n text (judge.Tree r) first none = record { refusal = judge.Tree r; problem = refl; first = first; none = none tt }
refused_for m n text judge.VectorMisses first none = record { refusal = judge.VectorMisses; problem = refl; first = first; none = none tt }
refused_for m n text (judge.SpentShort edges budget) first none = record { refusal = judge.SpentShort edges budget; problem = refl; first = first; none = none tt }
refused_for m n text judge.NoMemory first none = tt

-- what is found of the two texts
pub pair_judged : (first second proof : Word) (files : Option Files) (before now : ℕ) (problem : Problem) → Caused (PairFinds plain_decomposed first second files) before now problem → Caused (JudgeFinds first second proof files) before now problem
pair_judged first second proof files before now Fault h = h
pair_judged first second proof files before now Memory h = tt
pair_judged first second proof files before now Words h = absurd h
pair_judged first second proof files before now (Text kind place) h = h
pair_judged first second proof files before now (Limit quantity count) h = inl h
pair_judged first second proof files before now Missing h = inl h
pair_judged first second proof files before now (Journal f) h = absurd h
pair_judged first second proof files before now (Record r) h = absurd h
pair_judged first second proof files before now (Netlist byte) h = absurd h
pair_judged first second proof files before now (Second found) h = h
pair_judged first second proof files before now (Unlike list at) h = absurd h
pair_judged first second proof files before now CareShape h = absurd h
pair_judged first second proof files before now (Window number stop) h = absurd h
pair_judged first second proof files before now (Proof found) h = absurd h

module _ (once : ReadsOnce) (m n : Model) (first second proof : Word) where
  long_told : (files : Option Files) → IfSome files (AreRead plain_decomposed first second m n) → IfSome files (λ told. Holds told proof (λ text. 2 ^ 62 < length text)) → IfSome files (HasLongProof first second proof)
  long_told None read long = tt
  long_told (Some told) read long = (pair_good once plain_decomposed m n first second told read, long)

  absent_told : (files : Option Files) → IfSome files (AreRead plain_decomposed first second m n) → IsSomeAnd files (λ told. file_of told proof ≡ None) → IsSomeAnd files (HasNoProof first second proof)
  absent_told None read none = none
  absent_told (Some told) read none = (pair_good once plain_decomposed m n first second told read, none)

  found_of : (files : Option Files) (before mid now : ℕ) (problem : Problem) → before ≤ mid → IfSome files (AreRead plain_decomposed first second m n) → Caused (ProofFinds proof files) mid now problem → Caused (JudgeFinds first second proof files) before now problem
  found_of files before mid now Fault later read h = risen_after before mid now later h
  found_of files before mid now Memory later read h = tt
  found_of files before mid now Words later read h = absurd h
  found_of files before mid now (Text kind place) later read h = absurd h
  found_of files before mid now (Limit quantity count) later read h = inr (h.0, long_told files read h.1)
  found_of files before mid now Missing later read h = inr (absent_told files read h)
  found_of files before mid now (Journal f) later read h = absurd h
  found_of files before mid now (Record r) later read h = absurd h
  found_of files before mid now (Netlist byte) later read h = absurd h
  found_of files before mid now (Second found) later read h = absurd h
  found_of files before mid now (Unlike list at) later read h = absurd h
  found_of files before mid now CareShape later read h = absurd h
  found_of files before mid now (Window number stop) later read h = absurd h
  found_of files before mid now (Proof found) later read h = absurd h

  -- what is found of PROOF behind them
  pub proof_judged : (old mid : Option Files) (before between now : ℕ) (problem : Problem) → mid ≡ old → before ≤ between → IfSome old (AreRead plain_decomposed first second m n) → Caused (ProofFinds proof mid) between now problem → Caused (JudgeFinds first second proof old) before now problem
  proof_judged old mid before between now problem same later read cause = found_of old before between now problem later read (subst (λ (o : Option Files). Caused (ProofFinds proof o) between now problem) same cause)

module _ (m n : Model) (first second proof : Word) (text : List ℕ) where
  -- PROOF is there, and holds that text
  abbrev IsText : Files → Type 0
  IsText told = Holds told proof (λ bytes. (length bytes ≤ 2 ^ 62) × (text ≡ bytes))

  unlike_told : (files : Option Files) (list : NameList) (at : ℕ) → IfSome files (AreRead plain_decomposed first second m n) → IfSome files IsText → IsRefusedFor m n text (Unlike list at) → IfSome files (HasUnlike first second proof list at)
  unlike_told None list at read there h = tt
  unlike_told (Some told) list at read there h =
      (record { model = m; other = n; read = read; differ = h }, weaker (file_of told proof) (λ bytes. (length bytes ≤ 2 ^ 62) × (text ≡ bytes)) (λ bytes. length bytes ≤ 2 ^ 62) there (λ bytes is. is.0))

  flaw_told : (files : Option Files) (found : ProofProblem) → IfSome files (AreRead plain_decomposed first second m n) → IfSome files IsText → IsNoEvidence m n text found → IfSome files (IsRefused first second proof found)
  flaw_told None found read there h = tt
  flaw_told (Some told) found read there h = record {
    model = m;
    other = n;
    read = read;
    proof_is = weaker (file_of told proof) (λ bytes. (length bytes ≤ 2 ^ 62) × (text ≡ bytes)) (λ bytes. (length bytes ≤ 2 ^ 62) × IsNoEvidence m n bytes found) there (λ bytes is. (is.0, subst (λ (t : List ℕ). IsNoEvidence m n t found) is.1 h));
  }

  refused_in : (files : Option Files) (before now : ℕ) (problem : Problem) → IfSome files (AreRead plain_decomposed first second m n) → IfSome files IsText → IsRefusedFor m n text problem → Caused (JudgeFinds first second proof files) before now problem
  refused_in files before now (Unlike list at) read there h = unlike_told files list at read there h
  refused_in files before now (Proof found) read there h = flaw_told files found read there h
  refused_in files before now Memory read there h = tt
  refused_in files before now Fault read there h = absurd h
  refused_in files before now Words read there h = absurd h
  refused_in files before now (Text kind place) read there h = absurd h
  refused_in files before now (Limit quantity count) read there h = absurd h
  refused_in files before now Missing read there h = absurd h
  refused_in files before now (Journal f) read there h = absurd h
  refused_in files before now (Record r) read there h = absurd h
  refused_in files before now (Netlist byte) read there h = absurd h
  refused_in files before now (Second found) read there h = absurd h
  refused_in files before now CareShape read there h = absurd h
  refused_in files before now (Window number stop) read there h = absurd h

  -- why it isn't that of evidence on the models
  pub refused_judged : (old mid : Option Files) (before now : ℕ) (problem : Problem) → mid ≡ old → IfSome old (AreRead plain_decomposed first second m n) → IfSome mid IsText → IsRefusedFor m n text problem → Caused (JudgeFinds first second proof old) before now problem
  refused_judged old mid before now problem same read there h = refused_in old before now problem read (subst (λ (o : Option Files). IfSome o IsText) same there) h

  accepted_in : (files : Option Files) (budget count : ℕ) (e : Evidence) (verdict : Verdict) → IfSome files (AreRead plain_decomposed first second m n) → IfSome files IsText → AreComparable m n → IsProof text budget e → IsEvidenceFor m n budget e
      → count ≡ records_in e → verdict ≡ verdict_of budget e → IfSome files (HasJudged first second proof count verdict)
  accepted_in None budget count e verdict read there comparable says shown counts is = tt
  accepted_in (Some told) budget count e verdict read there comparable says shown counts is = record {
    model = m;
    other = n;
    comparable = comparable;
    budget = budget;
    evidence = e;
    has = record {
      read = read;
      names = record { sources = comparable.sources; observed = comparable.observed };
      proof_is = weaker (file_of told proof) (λ bytes. (length bytes ≤ 2 ^ 62) × (text ≡ bytes)) (λ bytes. (length bytes ≤ 2 ^ 62) × IsProof bytes budget e) there (λ bytes is. (is.0, subst (λ (t : List ℕ). IsProof t budget e) is.1 says));
      shown = shown;
    };
    count_is = counts;
    verdict_is = is;
  }

  -- or what its evidence says
  pub accepted_judged : (old mid : Option Files) (budget count : ℕ) (e : Evidence) (verdict : Verdict) → mid ≡ old → IfSome old (AreRead plain_decomposed first second m n) → IfSome mid IsText → AreComparable m n → IsProof text budget e → IsEvidenceFor m n budget e
      → count ≡ records_in e → verdict ≡ verdict_of budget e → IfSome old (HasJudged first second proof count verdict)
  accepted_judged old mid budget count e verdict same read there comparable says shown counts is =
      accepted_in old budget count e verdict read (subst (λ (o : Option Files). IfSome o IsText) same there) comparable says shown counts is
