use Rattle.blif_flatten.proofs.Lines.{no-call}
use Rattle.std.proofs.Common.{◌∙◌, sym}
use Rattle.blif_flatten.proofs.calls.is_call.Goals as goal

pub returns-then-line-gt1-clause-other : goal.returns-then-line-gt1-clause-other
returns-then-line-gt1-clause-other c = λ e. no-call c.args.text.now c.args.line.now (sym c.begins_with.ensures ∙ e)
