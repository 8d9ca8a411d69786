use Rattle.std.proofs.Common.{drop}
use Rattle.cover_decompose.specs.Inner.Tally.{rows_tally}
use Rattle.cover_decompose.proofs.Steps.{TallyLeft}
use Rattle.cover_decompose.proofs.count.rows_wires.Given as goal

abbrev pub invariant-loop-row : goal.invariant-loop-row
invariant-loop-row l = TallyLeft (rows_tally l.initial.seen l.inputs l.rows) (rows_tally l.seen l.inputs (drop l.row-index l.rows)) l.wires
