use Rattle.std.proofs.Common.{[]}
use Rattle.journal_text.specs.Text.{entry_text}
use Rattle.journal_text.specs.declared.record.Entry.TheVariants.{Header}
use Rattle.optimisation.proofs.Texts.{put_then, put_there, stopped_header}
use Rattle.optimisation.proofs.whole.open_journal.Goals as goal
use Rattle.rm_base.proofs.Public.{on_err}

pub append_entry-requires-clause-there : goal.append_entry-requires-clause-there
append_entry-requires-clause-there g c = put_there c.args.journal.now [] (g.S.Shelf.files c.args.shelf.now) (g.S.Shelf.files c.create.new.self) c.in_ok-create.ensures.files

pub returns-in_err-append_entry-clause-begun : goal.returns-in_err-append_entry-clause-begun
returns-in_err-append_entry-clause-begun g c =
    on_err c.from_residual-in_err-append_entry.result (stopped_header c.in_err-append_entry.field-0.0 c.args.journal.now (entry_text (Header c.args.budget)) (g.S.Shelf.files c.args.shelf.now) (g.S.Shelf.files c.create.new.self) (g.S.Shelf.files c.append_entry.new.shelf) c.in_ok-create.ensures.files c.in_err-append_entry.ensures.files)

pub returns-clause-opened : goal.returns-clause-opened
returns-clause-opened g c = put_then c.args.journal.now [] (entry_text (Header c.args.budget)) (g.S.Shelf.files c.args.shelf.now) (g.S.Shelf.files c.create.new.self) (g.S.Shelf.files c.append_entry.new.shelf) c.in_ok-create.ensures.files c.in_ok-append_entry.ensures.files
