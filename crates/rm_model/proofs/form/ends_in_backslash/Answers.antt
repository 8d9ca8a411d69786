use Rattle.std.proofs.Common.{sym, ◌∙◌}
use Rattle.rm_model.proofs.FormLemmas.{last-backslash}
use Rattle.rm_model.proofs.form.ends_in_backslash.Goals as goal

pub returns-then-not-is_empty : goal.returns-then-not-is_empty
returns-then-not-is_empty c = last-backslash c.args.name.now (sym c.if-not-is_empty.true ∙ c.is_empty.ensures)
