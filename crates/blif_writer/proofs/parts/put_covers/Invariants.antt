use Rattle.std.proofs.Common.{◌≡◌, ◌++◌, take}
use Rattle.std.specs.List.{flat_map}
use Rattle.blif_writer.specs.Inner.Written.{cover_text}
use Rattle.blif_writer.proofs.parts.put_covers.Given as goal

abbrev pub invariant-loop-cover : goal.invariant-loop-cover
invariant-loop-cover l = l.out.items ≡ l.initial.out.items ++ flat_map cover_text (take l.cover-index l.covers)
