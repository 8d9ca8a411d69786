use Rattle.std.proofs.Common.{◌≡◌, take}
use Rattle.rm_model.specs.Value.{is_among}
use Rattle.cover_sharing.proofs.sharing.name_table.Given as goal
use Rattle.rm_base.specs.Words.{Word}

abbrev pub invariant-loop-name : goal.invariant-loop-name
invariant-loop-name l = (x : Word) → is_among l.table x ≡ is_among (take l.name-index l.names) x
