use Rattle.std.proofs.Common.{◌≡◌, ◌++◌, map, take}
use Rattle.std.specs.List.{flat_map}
use Rattle.cover_sharing.specs.Inner.Encoding.{encoded_byte}
use Rattle.cover_sharing.proofs.encoding.push_bytes.Given as goal

abbrev pub invariant-loop-byte : goal.invariant-loop-byte
invariant-loop-byte l = l.out.items ≡ l.initial.out.items ++ flat_map encoded_byte (take l.byte-index l.bytes)
