-- A text is that of one budget and one evidence at most.
use Rattle.std.proofs.Common.{List, [], ap, arith, refl, sym, ℕ, ◌++◌, ◌∙◌, ◌∷◌, ◌≡◌, ◌≢◌, ◌≤◌}
use Rattle.std.specs.Prelude.{Some, codes, decimal}
use Rattle.std.proofs.lemmas.List.{append_cancel_left, append_cancel_right}
use Rattle.equal_evidence.specs.Evidence.{IsProof, evidence_text, merged_text}
use Rattle.equal_evidence.specs.Inner.Lines.{spelled}
use Rattle.equal_evidence.specs.Laws.{ProofsAreOne}
use Rattle.equal_evidence.specs.declared.evidence.Evidence.{Evidence}
use Rattle.equal_evidence.specs.declared.evidence.Evidence.TheVariants.{Merged, Plain}
use Rattle.equal_miter.specs.Proof.{likeness_line, proof_text}
use Rattle.equal_miter.specs.declared.likeness.Likeness.{Likeness}
use Rattle.journal_text.specs.Cutting.{JournalsAreOne}
use Rattle.journal_text.specs.Laws.{LinesRead, NumbersRead}
use Rattle.journal_text.specs.Numbers.{number_of}
use Rattle.journal_text.specs.Runs.{records_text}
use Rattle.journal_text.specs.declared.record.Record.{Record}
use Rattle.equal_evidence.proofs.Cuts.{cut_once}
use Rattle.equal_evidence.proofs.Journals.{budget_lines, decimal_lacks, journal_is}
use Rattle.equal_evidence.proofs.Spelling.{line_spelled, spelled_once}
use Rattle.rm_base.proofs.Public.{some_is}

-- the versions differ
one_is_two : (xs ys : List ℕ) → 49 ∷ xs ≡ 50 ∷ ys → ⊥
one_is_two xs ys e = let same : ◌≡◌ {A = ℕ} 49 50 = cc in absurd (omega (arith, same))

pub versions_differ : (xs ys : List ℕ) → codes "rambo-equal 1 " ++ xs ≡ codes "rambo-equal 2 " ++ ys → ⊥
versions_differ xs ys e = one_is_two (32 ∷ xs) (32 ∷ ys) (append_cancel_left (codes "rambo-equal ") (49 ∷ 32 ∷ xs) (50 ∷ 32 ∷ ys) e)

module _ (laws : LinesRead) (numbers : NumbersRead) (journals : JournalsAreOne) where
  decimal_once : (b c : ℕ) → b ≤ 1048576 → c ≤ 1048576 → decimal b ≡ decimal c → b ≡ c
  decimal_once b c few less e = some_is b c (sym (numbers.reads b (omega (arith, few))) ∙ (ap number_of e ∙ numbers.reads c (omega (arith, less))))

  plain_once : (text : List ℕ) (b c : ℕ) (k l : Likeness) → IsProof text b (Plain k) → IsProof text c (Plain l) → (b ≡ c) × (k ≡ l)
  plain_once text b c k l p q =
      let same : decimal b ++ 10 ∷ likeness_line k ≡ decimal c ++ 10 ∷ likeness_line l =
      append_cancel_left (codes "rambo-equal 1 ") (decimal b ++ 10 ∷ likeness_line k) (decimal c ++ 10 ∷ likeness_line l) (sym p.is ∙ q.is) in
      let cut = cut_once 10 (decimal b) (decimal c) (likeness_line k) (likeness_line l) (decimal_lacks laws b p.some_budget p.few_budget) (decimal_lacks laws c q.some_budget q.few_budget) same in
      let words : spelled k ≡ spelled l = append_cancel_right (spelled k) (spelled l) (10 ∷ []) (sym (line_spelled k) ∙ (cut.1 ∙ line_spelled l)) in
      (decimal_once b c p.few_budget q.few_budget cut.0, spelled_once laws k l p.written q.written words)

  merged_once : (text : List ℕ) (b c : ℕ) (rs qs : List Record) → IsProof text b (Merged rs) → IsProof text c (Merged qs) → (b ≡ c) × (rs ≡ qs)
  merged_once text b c rs qs p q =
      let same : decimal b ++ 10 ∷ (records_text rs ++ codes "equal\n") ≡ decimal c ++ 10 ∷ (records_text qs ++ codes "equal\n") =
      append_cancel_left (codes "rambo-equal 2 ") (decimal b ++ 10 ∷ (records_text rs ++ codes "equal\n")) (decimal c ++ 10 ∷ (records_text qs ++ codes "equal\n")) (sym p.is ∙ q.is) in
      let cut = cut_once 10 (decimal b) (decimal c) (records_text rs ++ codes "equal\n") (records_text qs ++ codes "equal\n") (decimal_lacks laws b p.some_budget p.few_budget) (decimal_lacks laws c q.some_budget q.few_budget) same in
      let lines : records_text rs ≡ records_text qs = append_cancel_right (records_text rs) (records_text qs) (codes "equal\n") cut.1 in
      journals.one _ b c rs qs (journal_is (budget_lines b rs) b rs p.some_budget p.few_budget p.written refl)
      (journal_is (budget_lines b rs) c qs q.some_budget q.few_budget q.written (ap (λ (l : List ℕ). l ++ 10 ∷ records_text rs) cut.0 ∙ ap (λ (l : List ℕ). decimal c ++ 10 ∷ l) lines))

  plain_is : (k l : Likeness) (b c : ℕ) → (b ≡ c) × (k ≡ l) → (b ≡ c) × (Plain k ≡ Plain l)
  plain_is k l b c (s, e) = (s, ap (λ (x : Likeness). Plain x) e)

  merged_is : (rs qs : List Record) (b c : ℕ) → (b ≡ c) × (rs ≡ qs) → (b ≡ c) × (Merged rs ≡ Merged qs)
  merged_is rs qs b c (s, e) = (s, ap (λ (x : List Record). Merged x) e)

  pub proofs_one : ProofsAreOne
  proofs_one text b c (Plain k) (Plain l) p q = plain_is k l b c (plain_once text b c k l p q)
  proofs_one text b c (Merged rs) (Merged qs) p q = merged_is rs qs b c (merged_once text b c rs qs p q)
  proofs_one text b c (Plain k) (Merged qs) p q = absurd (versions_differ (decimal b ++ 10 ∷ likeness_line k) (decimal c ++ 10 ∷ (records_text qs ++ codes "equal\n")) (sym p.is ∙ q.is))
  proofs_one text b c (Merged rs) (Plain l) p q = absurd (versions_differ (decimal c ++ 10 ∷ likeness_line l) (decimal b ++ 10 ∷ (records_text rs ++ codes "equal\n")) (sym q.is ∙ p.is))
