use Rattle.std.proofs.Common.{◌≡◌, ◌++◌, map, take}
use Rattle.rm_model.proofs.form.push_outputs.Given as goal

abbrev pub invariant-loop-cover : goal.invariant-loop-cover
invariant-loop-cover l = l.out.items ≡ l.initial.out.items ++ map (λ c. c.output) (take l.cover-index l.covers)
