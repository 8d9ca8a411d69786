use Rattle.journal_text.specs.Text.{entry_text}
use Rattle.journal_text.proofs.Appending.{part_none}
use Rattle.journal_text.proofs.append.append_entry.Goals as goal
use Rattle.rm_base.proofs.Public.{on_err}

pub returns-in_err-line-clause-stopped : goal.returns-in_err-line-clause-stopped
returns-in_err-line-clause-stopped g c = on_err c.from_residual.result (part_none (g.S.Shelf.files c.args.shelf.now) c.args.journal.now (entry_text c.args.entry.now) c.requires.there)
