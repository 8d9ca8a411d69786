use Rattle.std.proofs.Common.{map, take, ◌≡◌}
use Rattle.ternary_sim.proofs.table.plain_of.Given as goal
use Rattle.ternary_sim.specs.Inner.Settling.{plain_marks}

abbrev pub invariant-loop-good : goal.invariant-loop-good
invariant-loop-good l = l.marks.items ≡ map plain_marks (take l.good-index l.base)
