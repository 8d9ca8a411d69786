use Rattle.std.proofs.Common.{◌≡◌, ◌++◌, ◌-◌, false, length, take, replicate}
use Rattle.rm_model.proofs.evaluation.vector_of.Given as goal

abbrev pub invariant-loop-place : goal.invariant-loop-place
invariant-loop-place l = l.vector ≡ take l.place l.values ++ replicate (length l.values - l.place) false
