use Rattle.journal_text.specs.Runs.{records_text}
use Rattle.journal_text.specs.Text.{entry_text}
use Rattle.journal_text.specs.declared.record.Entry.TheVariants.{End}
use Rattle.rm_base.proofs.Public.{on_err}
use Rattle.rambo_cli.proofs.caring.add_records.Goals as goal

pub returns-in_err-append_records-clause-stopped : goal.returns-in_err-append_records-clause-stopped
returns-in_err-append_records-clause-stopped g c =
    on_err c.from_residual.result (c.texts_append.ensures.longer (g.S.Shelf.files c.args.shelf.now) (g.S.Shelf.files c.append_records.new.shelf) c.args.name.now (records_text c.args.records.now) (entry_text End) c.in_err-append_records.ensures.stopped)

pub returns-in_err-append_entry-clause-stopped : goal.returns-in_err-append_entry-clause-stopped
returns-in_err-append_entry-clause-stopped g c =
    on_err c.from_residual-in_err-append_entry.result (c.texts_append.ensures.part (g.S.Shelf.files c.args.shelf.now) (g.S.Shelf.files c.append_records.new.shelf) (g.S.Shelf.files c.append_entry.new.shelf) c.args.name.now (records_text c.args.records.now) (entry_text End) c.in_ok-append_records.ensures.written c.in_err-append_entry.ensures.stopped)

pub returns-clause-written : goal.returns-clause-written
returns-clause-written g c = c.texts_append.ensures.follows (g.S.Shelf.files c.args.shelf.now) (g.S.Shelf.files c.append_records.new.shelf) (g.S.Shelf.files c.append_entry.new.shelf) c.args.name.now (records_text c.args.records.now) (entry_text End) c.in_ok-append_records.ensures.written c.in_ok-append_entry.ensures.written
