use Rattle.std.proofs.Common.{◌≡◌, ◌+◌}
use Rattle.std.specs.Prelude.{drop}
use Rattle.rm_model.specs.Size.{covers_weight}
use Rattle.cover_decompose.proofs.bounds.weight.Given as goal

abbrev pub invariant-loop-cover : goal.invariant-loop-cover
invariant-loop-cover l = l.sum + covers_weight (drop l.cover-index l.covers) ≡ covers_weight l.fn.covers
