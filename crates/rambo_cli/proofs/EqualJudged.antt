-- `judge` over the files that `equal` wrote.
use Rattle.std.proofs.Common.{◌≡◌, ◌≢◌, ◌<◌, ◌≤◌, ◌^◌, ◌∙◌, ℕ, List, ap, inl, inr, length, refl, subst, sym}
use Rattle.std.proofs.lemmas.Bool.{cases_lt}
use Rattle.std.specs.Prelude.{Option, None, Some, IsSomeAnd}
use Rattle.rm_base.specs.Files.{Files, file_of}
use Rattle.rm_base.specs.Words.{Word}
use Rattle.rm_base.specs.declared.settings.Settings.{Settings}
use Rattle.equal_evidence.specs.Evidence.{IsProof, evidence_text}
use Rattle.equal_evidence.specs.declared.evidence.Evidence.{Evidence}
use Rattle.cover_decompose.specs.Spelled.{plain_decomposed}
use Rattle.rambo_cli.specs.Equal.{HasCompared, HasComparedWell, IsJudgedOver}
use Rattle.rambo_cli.specs.Files.{Holds, IfTold}
use Rattle.rambo_cli.specs.Judge.{IsProved}
use Rattle.rambo_cli.specs.Pairs.{AreRead}
use Rattle.rambo_cli.specs.Written.{IsSaid}
use Rattle.rambo_cli.proofs.Checked.{elsewhere, here}

module _ (first second proof : Word) (apart : (first ≢ proof) × (second ≢ proof)) (settings : Settings) (budget : (1 ≤ settings.budget) × (settings.budget ≤ 1048576)) (e : Evidence) (old new : Files) (h : HasCompared first second proof settings e old new) where
  abbrev text : List ℕ
  text = evidence_text settings.budget e

  proof_there : file_of new proof ≡ Some text
  proof_there = ap (λ (files : Files). file_of files proof) h.decided.files ∙ here proof text old

  stays : (name : Word) → name ≢ proof → file_of new name ≡ file_of old name
  stays name differ = ap (λ (files : Files). file_of files name) h.decided.files ∙ elsewhere proof name text old differ

  still_read : AreRead plain_decomposed first second h.model h.other new
  still_read = record {
    first_is = subst (λ (o : Option (List ℕ)). IsSomeAnd o (λ t. IsSaid t h.model)) (sym (stays first apart.0)) h.read.first_is;
    second_is = subst (λ (o : Option (List ℕ)). IsSomeAnd o (λ t. IsSaid t h.other)) (sym (stays second apart.1)) h.read.second_is;
    few = h.read.few;
    second_few = h.read.second_few;
  }

  is_proof : IsProof text settings.budget e
  is_proof = record { some_budget = budget.0; few_budget = budget.1; written = h.decided.written; is = refl }

  proved : length text ≤ 2 ^ 62 → IsProved first second proof new
  proved short = (
    h.model,
    (
      h.other,
      (
        settings.budget,
        (
          e,
          record {
            read = still_read;
            names = record { sources = h.decided.comparable.sources; observed = h.decided.comparable.observed };
            proof_is = subst (λ (o : Option (List ℕ)). IsSomeAnd o (λ t. (length t ≤ 2 ^ 62) × IsProof t settings.budget e)) (sym proof_there) (short, is_proof);
            shown = h.decided.evidence;
          },
        ),
      ),
    ),
  )

  judged : IsJudgedOver first second proof new
  judged = elim (cases_lt (2 ^ 62) (length text)) [
    | inl long ↦ inr (subst (λ (o : Option (List ℕ)). IsSomeAnd o (λ t. 2 ^ 62 < length t)) (sym proof_there) long)
    | inr short ↦ inl (proved short)
  ]

pub compared_well : (first second proof : Word) → (first ≢ proof) × (second ≢ proof) → (settings : Settings) → (1 ≤ settings.budget) × (settings.budget ≤ 1048576) → (e : Evidence) (old new : Option Files) → IfTold old new (HasCompared first second proof settings e)
    → IfTold old new (HasComparedWell first second proof settings e)
compared_well first second proof apart settings budget e None new h = tt
compared_well first second proof apart settings budget e (Some old) None h = absurd h
compared_well first second proof apart settings budget e (Some old) (Some new) h = (h, judged first second proof apart settings budget e old new h)
