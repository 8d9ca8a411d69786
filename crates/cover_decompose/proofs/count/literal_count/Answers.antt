use Rattle.cover_decompose.proofs.Steps.{count_end}
use Rattle.cover_decompose.proofs.count.literal_count.Goals as goal

pub returns : goal.returns
returns c = count_end c.args.row.now c.loop-literal.count c.loop-literal.literal-index c.loop-literal.invariant c.loop-literal-test.false
