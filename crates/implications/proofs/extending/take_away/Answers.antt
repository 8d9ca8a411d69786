use Rattle.std.proofs.Common.{arith}
use Rattle.implications.proofs.Trails.{back_past}
use Rattle.implications.proofs.extending.take_away.Goals as goal

pub returns-else-node-len : goal.returns-else-node-len
returns-else-node-len c = back_past c.args.facts.now (c.args.node, c.args.fact) (omega arith)
