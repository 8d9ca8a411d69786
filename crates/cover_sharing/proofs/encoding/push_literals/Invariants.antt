use Rattle.std.proofs.Common.{◌≡◌, ◌++◌, map, take}
use Rattle.std.specs.List.{flat_map}
use Rattle.rm_model.specs.Words.{literal_byte}
use Rattle.cover_sharing.proofs.encoding.push_literals.Given as goal

abbrev pub invariant-loop-literal : goal.invariant-loop-literal
invariant-loop-literal l = l.out.items ≡ l.initial.out.items ++ map literal_byte (take l.literal-index l.row)
