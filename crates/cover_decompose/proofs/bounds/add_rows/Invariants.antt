use Rattle.std.proofs.Common.{◌≡◌, ◌+◌}
use Rattle.std.specs.Prelude.{drop}
use Rattle.rm_model.specs.Size.{rows_weight}
use Rattle.cover_decompose.proofs.bounds.add_rows.Given as goal

abbrev pub invariant-loop-row : goal.invariant-loop-row
invariant-loop-row l = l.sum + rows_weight (drop l.row-index l.rows) ≡ l.fn.total + rows_weight l.fn.rows
