use Rattle.std.proofs.Common.{sym, ◌∙◌}
use Rattle.local_evaluation.proofs.Parities.{back_by, back_turned}
use Rattle.local_evaluation.proofs.pin_scans.back.Goals as goal

pub returns-in-Junction : goal.returns-in-Junction
returns-in-Junction g c = back_by c.args.kind _ c.args.value _ c.args.q _ (c.junction_back.ensures _ c.look.ensures) (sym c.in-Junction.is ∙ c.family.ensures)

pub returns-in-Parity : goal.returns-in-Parity
returns-in-Parity g c = back_by c.args.kind _ c.args.value _ c.args.q _ (c.parity_back.ensures ∙ back_turned c.args.value c.in-Parity.inverts _ c.args.q) (sym c.in-Parity.is ∙ c.family.ensures)
