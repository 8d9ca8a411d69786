use Rattle.std.proofs.Common.{◌≡◌, ◌≤◌, ◌+◌, drop}
use Rattle.cover_decompose.specs.Count.{literal_count}
use Rattle.window_cut.proofs.weights.literal_count.Given as goal

abbrev pub invariant-loop-literal : goal.invariant-loop-literal
invariant-loop-literal l = (l.count + literal_count (drop l.literal-index l.row) ≡ literal_count l.row) × (l.count ≤ l.literal-index)
