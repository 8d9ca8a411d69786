use Rattle.std.proofs.Common.{◌≡◌, take, map}
use Rattle.cover_decompose.specs.Spelled.{with_any}
use Rattle.cover_decompose.proofs.spelling.rows_with_any.Given as goal

abbrev pub invariant-loop-row : goal.invariant-loop-row
invariant-loop-row l = l.made.items ≡ map with_any (take l.row-index l.rows)
