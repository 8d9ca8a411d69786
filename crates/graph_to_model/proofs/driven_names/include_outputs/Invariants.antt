use Rattle.std.proofs.Common.{◌≡◌, ◌++◌, take, map}
use Rattle.rm_model.specs.Value.{is_among}
use Rattle.rm_model.specs.declared.parts.Cover.{Cover}
use Rattle.graph_to_model.proofs.driven_names.include_outputs.Given as goal
use Rattle.rm_base.specs.Words.{Word}

abbrev pub invariant-loop-cover : goal.invariant-loop-cover
invariant-loop-cover l = (x : Word) → is_among l.set x ≡ is_among (l.initial.set ++ map (λ (c : Cover). c.output) (take l.cover-index l.covers)) x
