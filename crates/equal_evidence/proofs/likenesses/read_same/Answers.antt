use Rattle.std.proofs.Common.{refl, ◌++◌, ◌≢◌}
use Rattle.std.specs.Prelude.{codes}
use Rattle.equal_evidence.specs.Evidence.{IsWritten}
use Rattle.equal_evidence.specs.Inner.Lines.{spelled}
use Rattle.equal_evidence.specs.declared.evidence.Evidence.TheVariants.{Plain}
use Rattle.equal_miter.specs.declared.likeness.Likeness.{Likeness}
use Rattle.journal_text.specs.declared.faults.JournalFault.{JournalFault}
use Rattle.journal_text.specs.declared.faults.JournalFault.TheVariants as fault
use Rattle.equal_evidence.proofs.Readings.{handed_on, same_other, same_read, same_unread}
use Rattle.equal_evidence.proofs.likenesses.read_same.Goals as goal

pub returns-in_err-given-clause-refused : goal.returns-in_err-given-clause-refused
returns-in_err-given-clause-refused c =
    handed_on c.from_residual.result c.in_err-given.field-0.0 (λ (f : JournalFault). f ≢ fault.NoMemory → (l : Likeness) → IsWritten (Plain l) → codes "same" ++ c.args.items.now ≢ spelled l) c.from_residual.ensures.1
    (λ ne. same_unread c.lines_read.ensures c.args.items.now (c.in_err-given.ensures.refused ne))

pub returns-in-Some-clause-written : goal.returns-in-Some-clause-written
returns-in-Some-clause-written c = (same_read c.lines_read.ensures c.args.items.now c.in_ok-given.given c.in-Some.tree c.in_ok-given.ensures.entry c.in_ok-given.ensures.read c.in-Some.ensures.some).0

pub returns-in-Some-clause-read : goal.returns-in-Some-clause-read
returns-in-Some-clause-read c = (same_read c.lines_read.ensures c.args.items.now c.in_ok-given.given c.in-Some.tree c.in_ok-given.ensures.entry c.in_ok-given.ensures.read c.in-Some.ensures.some).1

pub returns-in-None-clause-refused : goal.returns-in-None-clause-refused
returns-in-None-clause-refused c = λ ne. same_other c.lines_read.ensures c.args.items.now c.in_ok-given.given c.in_ok-given.ensures.entry c.in_ok-given.ensures.read (c.in-None.ensures.none refl)
