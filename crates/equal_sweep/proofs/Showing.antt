-- Steps that make a miter One are evidence.
use Rattle.std.proofs.Common.{List, subst, ℕ, ◌≡◌}
use Rattle.std.specs.Prelude.{IfSome, None, Option, Some}
use Rattle.equal_evidence.specs.Laws.{SweptMeansSame}
use Rattle.equal_evidence.specs.Shown.{IsEvidenceFor, IsSwept}
use Rattle.equal_evidence.specs.declared.evidence.Evidence.TheVariants.{Merged}
use Rattle.equal_miter.specs.Equal.{AreComparable, models_miter}
use Rattle.gate_net.specs.Net.{IsWellFormed, Net}
use Rattle.journal_text.specs.declared.record.Record.{Record}
use Rattle.rm_model.specs.declared.parts.Model.{Model}

module _ (same : SweptMeansSame) (m n : Model) (budget : ℕ) (net : Net) (is : net ≡ models_miter m n) (h : AreComparable m n) (formed : IsWellFormed net) where
  shows : (records : List Record) → IsSwept net records → IsEvidenceFor m n budget (Merged records)
  shows records swept =
      let there : IsSwept (models_miter m n) records = subst (λ (x : Net). IsSwept x records) is swept in
      (there, same m n records h (subst (λ (x : Net). IsWellFormed x) is formed) there)

  pub found_shows : (found : Option (List Record)) → IfSome found (λ records. IsSwept net records) → IfSome found (λ records. IsEvidenceFor m n budget (Merged records))
  found_shows None s = s
  found_shows (Some records) s = shows records s
