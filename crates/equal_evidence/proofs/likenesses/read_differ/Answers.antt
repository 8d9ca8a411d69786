use Rattle.std.proofs.Common.{refl, ◌++◌, ◌≢◌}
use Rattle.std.specs.Prelude.{codes}
use Rattle.equal_evidence.specs.Evidence.{IsWritten}
use Rattle.equal_evidence.specs.Inner.Lines.{spelled}
use Rattle.equal_evidence.specs.declared.evidence.Evidence.TheVariants.{Plain}
use Rattle.equal_miter.specs.declared.likeness.Likeness.{Likeness}
use Rattle.journal_text.specs.declared.faults.JournalFault.{JournalFault}
use Rattle.journal_text.specs.declared.faults.JournalFault.TheVariants as fault
use Rattle.equal_evidence.proofs.Readings.{differ_other, differ_read, differ_unread, handed_on, some_values}
use Rattle.equal_evidence.proofs.likenesses.read_differ.Goals as goal

pub returns-in_err-given-clause-refused : goal.returns-in_err-given-clause-refused
returns-in_err-given-clause-refused c =
    handed_on c.from_residual.result c.in_err-given.field-0.0 (λ (f : JournalFault). f ≢ fault.NoMemory → (l : Likeness) → IsWritten (Plain l) → codes "differ" ++ c.args.values.now ≢ spelled l) c.from_residual.ensures.1
    (λ ne. differ_unread c.lines_read.ensures c.args.values.now (some_values c.args.values.now c.is_empty.result c.is_empty.ensures c.if-is_empty.false) (c.in_err-given.ensures.refused ne))

pub returns-in-Some-clause-read : goal.returns-in-Some-clause-read
returns-in-Some-clause-read c = differ_read c.lines_read.ensures c.args.values.now c.in_ok-given.given c.in-Some.vector c.in_ok-given.ensures.entry c.in_ok-given.ensures.read c.in-Some.ensures.some

pub returns-in-None-clause-refused : goal.returns-in-None-clause-refused
returns-in-None-clause-refused c = λ ne. differ_other c.lines_read.ensures c.args.values.now c.in_ok-given.given (some_values c.args.values.now c.is_empty.result c.is_empty.ensures c.if-is_empty.false) c.in_ok-given.ensures.entry c.in_ok-given.ensures.read (c.in-None.ensures.none refl)
