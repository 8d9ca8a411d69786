use Rattle.std.proofs.Common.{◌≡◌, take}
use Rattle.rm_model.specs.Value.{outputs_of}
use Rattle.cover_sharing.proofs.sharing.output_table.Given as goal

abbrev pub invariant-loop-cover : goal.invariant-loop-cover
invariant-loop-cover l = l.table ≡ outputs_of (take l.cover-index l.covers)
