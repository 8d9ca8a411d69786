use Rattle.std.proofs.Common.{◌≡◌, take}
use Rattle.rm_model.proofs.copies.copy_latches.Given as goal

abbrev pub invariant-loop-latch : goal.invariant-loop-latch
invariant-loop-latch l = l.copies.items ≡ take l.latch-index l.latches
