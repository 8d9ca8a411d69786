use Rattle.journal_text.proofs.Appending.{outside_part, outside_there, there_then}
use Rattle.journal_text.proofs.append.append_line.Goals as goal
use Rattle.rm_base.proofs.Public.{on_err}

pub returns-in_err-append-clause-stopped : goal.returns-in_err-append-clause-stopped
returns-in_err-append-clause-stopped g c =
    on_err c.from_residual.result (outside_part c.in_err-append.field-0.0 (g.S.Shelf.files c.args.shelf.now) (g.S.Shelf.files c.append.new.self) c.args.journal.now c.args.line.now c.requires.there c.in_err-append.ensures.files)

pub returns-in_err-append-clause-there : goal.returns-in_err-append-clause-there
returns-in_err-append-clause-there g c =
    outside_there c.in_err-append.field-0.0 (g.S.Shelf.files c.args.shelf.now) (g.S.Shelf.files c.append.new.self) c.args.journal.now c.args.line.now c.requires.there c.in_err-append.ensures.files

pub returns-clause-there : goal.returns-clause-there
returns-clause-there g c =
    there_then (g.S.Shelf.files c.args.shelf.now) (g.S.Shelf.files c.append.new.self) c.args.journal.now c.args.line.now c.requires.there c.in_ok-append.ensures.files
