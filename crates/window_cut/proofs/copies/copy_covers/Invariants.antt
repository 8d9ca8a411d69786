use Rattle.std.proofs.Common.{◌≡◌, take}
use Rattle.window_cut.specs.Order.{covers_at}
use Rattle.window_cut.proofs.copies.copy_covers.Given as goal

abbrev pub invariant-loop-place : goal.invariant-loop-place
invariant-loop-place l = l.made.items ≡ covers_at l.covers (take l.place-index l.places)
