use Rattle.std.proofs.Common.{◌≡◌, ◌++◌, map, take}
use Rattle.std.specs.List.{flat_map}
use Rattle.cover_sharing.specs.Inner.Encoding.{encoded_name}
use Rattle.cover_sharing.proofs.encoding.push_names.Given as goal

abbrev pub invariant-loop-name : goal.invariant-loop-name
invariant-loop-name l = l.out.items ≡ l.initial.out.items ++ flat_map encoded_name (take l.name-index l.names)
