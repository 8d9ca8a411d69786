use Rattle.std.proofs.Common.{◌≡◌, ◌++◌, take}
use Rattle.std.specs.List.{flat_map}
use Rattle.rm_model.proofs.form.push_inputs.Given as goal

abbrev pub invariant-loop-cover : goal.invariant-loop-cover
invariant-loop-cover l = l.out.items ≡ l.initial.out.items ++ flat_map (λ c. c.inputs) (take l.cover-index l.covers)
