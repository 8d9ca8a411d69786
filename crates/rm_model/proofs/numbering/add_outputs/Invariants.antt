use Rattle.std.proofs.Common.{◌≡◌, ◌++◌, map, take}
use Rattle.rm_model.proofs.numbering.add_outputs.Given as goal

abbrev pub invariant-loop-cover : goal.invariant-loop-cover
invariant-loop-cover l = l.table ≡ l.initial.table ++ map (λ c. c.output) (take l.cover-index l.covers)
