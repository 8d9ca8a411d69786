use Rattle.std.proofs.Common.{drop}
use Rattle.cover_decompose.specs.Inner.Tally.{zeros_tally}
use Rattle.cover_decompose.proofs.Steps.{TallyLeft}
use Rattle.cover_decompose.proofs.count.zero_wires.Given as goal

abbrev pub invariant-loop-at : goal.invariant-loop-at
invariant-loop-at l = TallyLeft (zeros_tally l.initial.seen l.inputs l.row) (zeros_tally l.seen (drop l.at l.inputs) (drop l.at l.row)) l.wires
