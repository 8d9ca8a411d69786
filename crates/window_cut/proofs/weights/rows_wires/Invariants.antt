use Rattle.std.proofs.Common.{◌≡◌, take, sum_by}
use Rattle.cover_decompose.specs.Count.{joining, literal_count}
use Rattle.window_cut.specs.Inner.Weights.{capped}
use Rattle.window_cut.proofs.weights.rows_wires.Given as goal

abbrev pub invariant-loop-row : goal.invariant-loop-row
invariant-loop-row l = l.wires ≡ capped (sum_by (λ row. joining (literal_count row)) (take l.row-index l.rows))
