use Rattle.std.proofs.Common.{take}
use Rattle.window_cut.specs.Inner.Places.{TakesOn}
use Rattle.window_cut.specs.Order.{covers_at}
use Rattle.window_cut.proofs.cutting.take_covers.Given as goal

abbrev pub invariant-loop-place : goal.invariant-loop-place
invariant-loop-place l = TakesOn l.covers l.width l.initial.cutting (covers_at l.covers (take l.place-index l.order)) l.cutting
