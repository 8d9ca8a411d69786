use Rattle.std.proofs.Common.{◌≡◌, take}
use Rattle.rm_model.specs.Inner.PlacedNames.{name_hash}
use Rattle.rm_model.proofs.ordered_names.hash_of.Given as goal

abbrev pub invariant-loop-byte : goal.invariant-loop-byte
invariant-loop-byte l = l.hash ≡ name_hash (take l.byte-index l.name)
