use Rattle.std.proofs.Common.{◌≡◌, ◌++◌, take}
use Rattle.rm_model.specs.Value.{is_among}
use Rattle.graph_to_model.proofs.driven_names.include_names.Given as goal
use Rattle.rm_base.specs.Words.{Word}

abbrev pub invariant-loop-name : goal.invariant-loop-name
invariant-loop-name l = (x : Word) → is_among l.set x ≡ is_among (l.initial.set ++ take l.name-index l.names) x
