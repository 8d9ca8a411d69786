use Rattle.std.proofs.Common.{◌≡◌, ◌++◌, take}
use Rattle.std.specs.List.{flat_map}
use Rattle.blif_writer.specs.Inner.Written.{latch_text}
use Rattle.blif_writer.proofs.parts.put_latches.Given as goal

abbrev pub invariant-loop-latch : goal.invariant-loop-latch
invariant-loop-latch l = l.out.items ≡ l.initial.out.items ++ flat_map latch_text (take l.latch-index l.latches)
