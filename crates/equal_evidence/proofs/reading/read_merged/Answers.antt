use Rattle.std.proofs.Common.{List, ap, subst, sym, ℕ, ◌++◌, ◌∙◌, ◌≡◌, ◌≢◌}
use Rattle.std.specs.Borrow.{Bor}
use Rattle.std.specs.Prelude.{codes}
use Rattle.std.proofs.lemmas.Bool.Decides.{Decides-eqb}
use Rattle.std.proofs.lemmas.Slice.Eq.{strip_suffix_is}
use Rattle.equal_evidence.specs.Evidence.{IsProof}
use Rattle.equal_evidence.specs.declared.evidence.Evidence.TheVariants.{Merged}
use Rattle.journal_text.specs.declared.faults.JournalFault.{JournalFault}
use Rattle.journal_text.specs.declared.faults.JournalFault.TheVariants as fault
use Rattle.journal_text.specs.declared.record.Record.{Record}
use Rattle.equal_evidence.proofs.Journals.{merged_ends, merged_journal, merged_read}
use Rattle.equal_evidence.proofs.Readings.{at_none, at_some, handed_on}
use Rattle.equal_evidence.proofs.reading.read_merged.Goals as goal

pub returns-in_default-clause-refused : goal.returns-in_default-clause-refused
returns-in_default-clause-refused c = λ ne b rs p.
    let end : List ℕ = c.as_slice.result.now in
    let none : (front : List ℕ) → c.args.rest.now ≢ front ++ end =
    at_none ((front : List ℕ) → c.args.rest.now ≢ front ++ end) (λ (x : Bor (List ℕ)). c.args.rest.now ≡ x.now ++ end) c.strip_suffix.result c.in_default.is (strip_suffix_is Decides-eqb c.args.rest.now end c.strip_suffix.result c.strip_suffix.ensures.cases) in
    merged_ends c.args.rest.now b rs p (λ front e. none front (e ∙ ap (λ (l : List ℕ). front ++ l) (sym c.as_slice.ensures)))

pub returns-in_err-budget-clause-refused : goal.returns-in_err-budget-clause-refused
returns-in_err-budget-clause-refused c =
    let end : List ℕ = c.as_slice.result.now in
    let cut : c.args.rest.now ≡ c.in-Some.lines.now ++ end =
    at_some ((front : List ℕ) → c.args.rest.now ≢ front ++ end) (λ (x : Bor (List ℕ)). c.args.rest.now ≡ x.now ++ end) c.strip_suffix.result c.in-Some.lines c.in-Some.is (strip_suffix_is Decides-eqb c.args.rest.now end c.strip_suffix.result c.strip_suffix.ensures.cases) in
    handed_on c.from_residual.result c.in_err-budget.field-0.0 (λ (f : JournalFault). f ≢ fault.NoMemory → (b : ℕ) (rs : List Record) → IsProof (codes "rambo-equal 2 " ++ c.args.rest.now) b (Merged rs) → ⊥) c.from_residual.ensures.1
    (λ ne b rs p. c.in_err-budget.ensures.refused ne b rs (merged_journal c.args.rest.now c.in-Some.lines.now b rs (cut ∙ ap (λ (l : List ℕ). c.in-Some.lines.now ++ l) c.as_slice.ensures) p))

pub returns-clause-read : goal.returns-clause-read
returns-clause-read c =
    let end : List ℕ = c.as_slice.result.now in
    let cut : c.args.rest.now ≡ c.in-Some.lines.now ++ end =
    at_some ((front : List ℕ) → c.args.rest.now ≢ front ++ end) (λ (x : Bor (List ℕ)). c.args.rest.now ≡ x.now ++ end) c.strip_suffix.result c.in-Some.lines c.in-Some.is (strip_suffix_is Decides-eqb c.args.rest.now end c.strip_suffix.result c.strip_suffix.ensures.cases) in
    subst (λ (rs : List Record). IsProof (codes "rambo-equal 2 " ++ c.args.rest.now) c.in_ok-budget.budget (Merged rs)) (sym c.of.ensures)
    (merged_read c.args.rest.now c.in-Some.lines.now c.in_ok-budget.budget c.in_ok-budget.records.items (cut ∙ ap (λ (l : List ℕ). c.in-Some.lines.now ++ l) c.as_slice.ensures) c.in_ok-budget.ensures.read)
