use Rattle.std.proofs.Common.{sym, ◌∙◌}
use Rattle.local_evaluation.proofs.Parities.{forward_by}
use Rattle.local_evaluation.proofs.pin_scans.forward.Goals as goal

pub returns-in-Junction : goal.returns-in-Junction
returns-in-Junction g c = forward_by c.args.kind _ _ _ (c.junction_forward.ensures _ c.look.ensures) (sym c.in-Junction.is ∙ c.family.ensures)

pub returns-in-Parity : goal.returns-in-Parity
returns-in-Parity g c = forward_by c.args.kind _ _ _ c.parity_forward.ensures (sym c.in-Parity.is ∙ c.family.ensures)
