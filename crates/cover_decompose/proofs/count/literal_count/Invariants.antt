use Rattle.cover_decompose.proofs.Steps.{CountLeft}
use Rattle.cover_decompose.proofs.count.literal_count.Given as goal

abbrev pub invariant-loop-literal : goal.invariant-loop-literal
invariant-loop-literal l = CountLeft l.row l.count l.literal-index
