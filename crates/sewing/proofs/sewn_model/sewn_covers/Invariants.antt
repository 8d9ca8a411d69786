use Rattle.std.proofs.Common.{◌≡◌, ◌+◌, ◌++◌, drop}
use Rattle.sewing.specs.Sewn.{sewn_covers}
use Rattle.sewing.proofs.sewn_model.sewn_covers.Given as goal

abbrev pub invariant-loop-place : goal.invariant-loop-place
invariant-loop-place l = l.covers.items ++ sewn_covers l.lead (l.place + 1) (drop l.place l.parts) ≡ sewn_covers l.lead 1 l.parts
