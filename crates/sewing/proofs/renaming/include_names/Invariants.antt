use Rattle.std.proofs.Common.{◌≡◌, ◌++◌, take}
use Rattle.rm_base.specs.Words.{Word}
use Rattle.rm_model.specs.Value.{is_among}
use Rattle.sewing.proofs.renaming.include_names.Given as goal

abbrev pub invariant-loop-name : goal.invariant-loop-name
invariant-loop-name l = (x : Word) → is_among l.table x ≡ is_among (l.initial.table ++ take l.name-index l.names) x
