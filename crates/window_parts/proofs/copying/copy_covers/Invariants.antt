use Rattle.std.proofs.Common.{◌≡◌, take}
use Rattle.window_parts.proofs.copying.copy_covers.Given as goal

abbrev pub invariant-loop-cover : goal.invariant-loop-cover
invariant-loop-cover l = l.copies.items ≡ take l.cover-index l.covers
