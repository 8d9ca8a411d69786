use Rattle.std.proofs.Common.{arith}
use Rattle.refutation_check.proofs.Splits.{not_beyond}
use Rattle.refutation_check.proofs.reading.is_opposed.Goals as goal

pub returns-then-node-len : goal.returns-then-node-len
returns-then-node-len c = (λ h. cc, λ h. absurd (not_beyond c.args.facts.now c.args.node.0 (omega arith) h))
