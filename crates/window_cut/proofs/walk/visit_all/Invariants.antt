use Rattle.std.proofs.Common.{◌≡◌, [], fold, take}
use Rattle.window_cut.specs.Inner.Walk.{IsMarked, visit}
use Rattle.window_cut.proofs.walk.visit_all.Given as goal

abbrev pub invariant-loop-name : goal.invariant-loop-name
invariant-loop-name l = (l.order.items ≡ fold (visit l.model) [] (take l.name-index l.names)) × IsMarked l.model l.order.items l.marks.items
