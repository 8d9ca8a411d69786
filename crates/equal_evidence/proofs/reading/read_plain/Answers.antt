use Rattle.std.proofs.Common.{refl, ℕ, ◌++◌, ◌≢◌}
use Rattle.std.specs.Prelude.{codes}
use Rattle.equal_evidence.specs.Evidence.{IsProof}
use Rattle.equal_evidence.specs.declared.evidence.Evidence.TheVariants.{Plain}
use Rattle.equal_miter.specs.declared.likeness.Likeness.{Likeness}
use Rattle.journal_text.specs.declared.faults.JournalFault.{JournalFault}
use Rattle.journal_text.specs.declared.faults.JournalFault.TheVariants as fault
use Rattle.equal_evidence.proofs.Readings.{handed_on, plain_budget, plain_has_line, plain_line, plain_more, plain_second, some_values}
use Rattle.equal_evidence.proofs.reading.read_plain.Goals as goal

pub returns-in_default-clause-refused : goal.returns-in_default-clause-refused
returns-in_default-clause-refused c = λ ne b l p. plain_has_line c.lines_read.ensures c.args.rest.now b l (c.in_default.ensures.none refl) p

pub returns-in_err-budget-clause-refused : goal.returns-in_err-budget-clause-refused
returns-in_err-budget-clause-refused c =
    handed_on c.from_residual.result c.in_err-budget.field-0.0 (λ (f : JournalFault). f ≢ fault.NoMemory → (b : ℕ) (l : Likeness) → IsProof (codes "rambo-equal 1 " ++ c.args.rest.now) b (Plain l) → ⊥) c.from_residual.ensures.1
    (λ ne b l p. plain_budget c.lines_read.ensures c.args.rest.now c.in-Some.word.now c.in-Some.second.now b l c.in-Some.ensures.cut c.in-Some.ensures.whole (c.in_err-budget.ensures.refused ne) p)

pub returns-in_default-first_line-clause-refused : goal.returns-in_default-first_line-clause-refused
returns-in_default-first_line-clause-refused c = λ ne b l p.
    plain_second c.lines_read.ensures c.args.rest.now c.in-Some.word.now c.in-Some.second.now b l c.in-Some.ensures.cut c.in-Some.ensures.whole (c.in_default-first_line.ensures.none refl) p

pub returns-in_err-likeness-clause-refused : goal.returns-in_err-likeness-clause-refused
returns-in_err-likeness-clause-refused c =
    handed_on c.from_residual-in_err-likeness.result c.in_err-likeness.field-0.0 (λ (f : JournalFault). f ≢ fault.NoMemory → (b : ℕ) (l : Likeness) → IsProof (codes "rambo-equal 1 " ++ c.args.rest.now) b (Plain l) → ⊥) c.from_residual-in_err-likeness.ensures.1
    (λ ne b l p.
    plain_line c.lines_read.ensures c.args.rest.now c.in-Some.word.now c.in-Some.second.now c.in-Some-first_line.line.now c.in-Some-first_line.more.now b l c.in-Some.ensures.cut c.in-Some.ensures.whole c.in-Some-first_line.ensures.cut c.in-Some-first_line.ensures.whole (c.in_err-likeness.ensures.refused ne) p)

pub returns-then-not-is_empty-clause-refused : goal.returns-then-not-is_empty-clause-refused
returns-then-not-is_empty-clause-refused c = λ ne b l p.
    plain_more c.lines_read.ensures c.args.rest.now c.in-Some.word.now c.in-Some.second.now c.in-Some-first_line.line.now c.in-Some-first_line.more.now b l c.in-Some.ensures.cut c.in-Some.ensures.whole c.in-Some-first_line.ensures.cut c.in-Some-first_line.ensures.whole
    (some_values c.in-Some-first_line.more.now c.is_empty.result c.is_empty.ensures c.if-not-is_empty.true) p
