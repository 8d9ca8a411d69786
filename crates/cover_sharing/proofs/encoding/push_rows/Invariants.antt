use Rattle.std.proofs.Common.{◌≡◌, ◌++◌, map, take}
use Rattle.std.specs.List.{flat_map}
use Rattle.cover_sharing.specs.Inner.Encoding.{encoded_row}
use Rattle.cover_sharing.proofs.encoding.push_rows.Given as goal

abbrev pub invariant-loop-row : goal.invariant-loop-row
invariant-loop-row l = l.out.items ≡ l.initial.out.items ++ flat_map encoded_row (take l.row-index l.rows)
