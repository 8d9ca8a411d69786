use Rattle.std.proofs.Common.{◌≡◌, Some, map, take}
use Rattle.rm_model.proofs.ranking.all_ranks.Given as goal

abbrev pub invariant-loop-place : goal.invariant-loop-place
invariant-loop-place l = map Some l.all.items ≡ take l.place l.ranks
