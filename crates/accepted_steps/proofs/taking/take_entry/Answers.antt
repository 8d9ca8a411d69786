use Rattle.std.proofs.Common.{IfOk, subst, sym}
use Rattle.journal_text.specs.declared.record.Entry.{Entry}
use Rattle.accepted_steps.specs.Inner.Taking.{TakesOne}
use Rattle.accepted_steps.proofs.Entering.{record_says}
use Rattle.accepted_steps.proofs.taking.take_entry.Goals as goal

pub returns-in-Record : goal.returns-in-Record
returns-in-Record c =
    subst (λ (e : Entry). IfOk c.take_record.result (λ o. TakesOne c.args.model.now c.args.taking.now e c.take_record.new.taking o)) (sym c.in-Record.is)
    (record_says c.args.model.now c.args.taking.now c.take_record.new.taking c.in-Record.record c.take_record.result c.take_record.ensures)
