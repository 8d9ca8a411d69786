-- What is found of a proof, where it is there beside two texts whose models can be compared.
use Rattle.std.proofs.Common.{◌≡◌, ◌≤◌, ◌<◌, ◌^◌, ◌∷◌, ◌∙◌, [], ℕ, List, length, refl, sym, ap, subst, arith, inl, inr}
use Rattle.std.specs.Prelude.{Option, None, Some, IsSomeAnd}
use Rattle.rm_base.specs.Files.{Files, file_of}
use Rattle.rm_base.specs.Words.{Word}
use Rattle.rm_model.specs.Value.{observed_names, source_names}
use Rattle.rm_model.specs.declared.parts.Model.{Model}
use Rattle.rm_model.proofs.Public.{is_word-same}
use Rattle.blif_lines.specs.Layout.{lines_of}
use Rattle.blif_format.specs.Laws.{ReadsOnce}
use Rattle.equal_evidence.specs.Evidence.{IsProof}
use Rattle.equal_evidence.specs.Shown.{IsEvidenceFor}
use Rattle.equal_miter.specs.Refusals.{HaveSameNames, first_difference}
use Rattle.cover_decompose.specs.Spelled.{plain_decomposed}
use Rattle.rambo_cli.specs.Pairs.{DifferAt}
use Rattle.rambo_cli.specs.Judge.{CanBeJudged, IsNoEvidence, IsProved, IsRefused, JudgeFinds}
use Rattle.rambo_cli.specs.Problems.{status_of}
use Rattle.rambo_cli.specs.Written.{IsSaid}
use Rattle.rambo_cli.specs.declared.problem.NameList.{NameList}
use Rattle.rambo_cli.specs.declared.problem.NameList.TheVariants.{Sources, Observed}
use Rattle.rambo_cli.specs.declared.problem.ProofProblem.{ProofProblem}
use Rattle.rambo_cli.specs.declared.problem.Problem.{Problem}
use Rattle.rambo_cli.specs.declared.problem.Problem.TheVariants.{Words, Text, Limit, Missing, Fault, Journal, Record, Netlist, Second, Unlike, CareShape, Window, Proof, Memory}
use Rattle.rambo_cli.proofs.TextsFound.{pair_finds_none, pair_good, present, together, weaker}

-- a list differs from itself nowhere
no_difference : (xs : List Word) → first_difference xs xs ≡ None
no_difference [] = refl
no_difference (x ∷ xs) = rw (is_word-same x, no_difference xs) refl

none_differs : (xs ys : List Word) (at : ℕ) → xs ≡ ys → first_difference xs ys ≡ Some at → ⊥
none_differs xs ys at same e = let none : first_difference xs ys ≡ None = ap (λ (l : List Word). first_difference xs l) (sym same) ∙ no_difference xs in cc

never_unlike : (m n : Model) (list : NameList) (at : ℕ) → HaveSameNames m n → DifferAt m n list at → ⊥
never_unlike m n Sources at names h = none_differs (source_names m) (source_names n) at names.sources h
never_unlike m n Observed at names h = none_differs (observed_names m) (observed_names n) at names.observed h.1

-- nothing is found but a flaw of PROOF, where that is there beside two such texts, whose models have the same names
flaw_alone : (first second proof : Word) (told : Files) (problem : Problem) → CanBeJudged first second proof told → JudgeFinds first second proof (Some told) problem
    → (flaw : ProofProblem) × ((problem ≡ Proof flaw) × IsRefused first second proof flaw told)
flaw_alone first second proof told (Text kind place) good h = absurd (pair_finds_none plain_decomposed first second told (Text kind place) good.pair h)
flaw_alone first second proof told (Limit quantity count) good h = elim h [
  | inl read ↦ absurd (pair_finds_none plain_decomposed first second told (Limit quantity count) good.pair read)
  | inr long ↦ absurd (together (file_of told proof) (λ text. length text ≤ 2 ^ 62) (λ text. 2 ^ 62 < length text) good.proof_is long.1.1 (λ text few many. omega (arith, few, many)))
]
flaw_alone first second proof told Missing good h = elim h [
  | inl read ↦ absurd (pair_finds_none plain_decomposed first second told Missing good.pair read)
  | inr absent ↦ absurd (present (file_of told proof) (λ text. length text ≤ 2 ^ 62) good.proof_is absent.1)
]
flaw_alone first second proof told (Second text) good h = absurd (pair_finds_none plain_decomposed first second told (Second text) good.pair h)
flaw_alone first second proof told (Unlike list at) good h = absurd (never_unlike h.0.model h.0.other list at (good.names h.0.model h.0.other h.0.read) h.0.differ)
flaw_alone first second proof told (Proof flaw) good h = (flaw, (refl, h))
flaw_alone first second proof told Fault good h = absurd h
flaw_alone first second proof told Memory good h = absurd h
flaw_alone first second proof told Words good h = absurd h
flaw_alone first second proof told (Journal f) good h = absurd h
flaw_alone first second proof told (Record r) good h = absurd h
flaw_alone first second proof told (Netlist byte) good h = absurd h
flaw_alone first second proof told CareShape good h = absurd h
flaw_alone first second proof told (Window number stop) good h = absurd h

pub flaw_judged : (first second proof : Word) (told : Files) (problem : Problem) → CanBeJudged first second proof told → JudgeFinds first second proof (Some told) problem → status_of problem ≡ 6
flaw_judged first second proof told problem good h = ap status_of (flaw_alone first second proof told problem good h).1.0

module _ (once : ReadsOnce) where
  one_said : (o : Option (List ℕ)) (m n : Model) → IsSomeAnd o (λ text. IsSaid text m) → IsSomeAnd o (λ text. IsSaid text n) → m ≡ n
  one_said None m n one two = absurd one
  one_said (Some text) m n one two = once (lines_of text) m n one.reads two.reads

  -- a proof that is the text of evidence can be judged
  proved_judged : (first second proof : Word) (told : Files) → IsProved first second proof told → CanBeJudged first second proof told
  proved_judged first second proof told (m, (n, (budget, (e, has)))) = record {
    pair = pair_good once plain_decomposed m n first second told has.read;
    names = λ p q read.
        subst (λ (x : Model). HaveSameNames x q) (one_said (file_of told first) m p has.read.first_is read.first_is)
        (subst (λ (x : Model). HaveSameNames m x) (one_said (file_of told second) n q has.read.second_is read.second_is) has.names);
    proof_is = weaker (file_of told proof) (λ text. (length text ≤ 2 ^ 62) × IsProof text budget e) (λ text. length text ≤ 2 ^ 62) has.proof_is (λ text is. is.0);
  }

  -- and has no flaw
  proved_fine : (first second proof : Word) (told : Files) (flaw : ProofProblem) → IsProved first second proof told → IsRefused first second proof flaw told → ⊥
  proved_fine first second proof told flaw (m, (n, (budget, (e, has)))) r =
      let shown : IsEvidenceFor r.model r.other budget e =
      subst (λ (x : Model). IsEvidenceFor x r.other budget e) (one_said (file_of told first) m r.model has.read.first_is r.read.first_is)
      (subst (λ (x : Model). IsEvidenceFor m x budget e) (one_said (file_of told second) n r.other has.read.second_is r.read.second_is) has.shown) in
      together (file_of told proof) (λ text. (length text ≤ 2 ^ 62) × IsProof text budget e) (λ text. (length text ≤ 2 ^ 62) × IsNoEvidence r.model r.other text flaw) has.proof_is r.proof_is
      (λ text is bad. bad.1.none budget e is.1 shown)

  pub proved_finds_none : (first second proof : Word) (told : Files) (problem : Problem) → IsProved first second proof told → JudgeFinds first second proof (Some told) problem → ⊥
  proved_finds_none first second proof told problem good h =
      let found = flaw_alone first second proof told problem (proved_judged first second proof told good) h in
      proved_fine first second proof told found.0 good found.1.1
