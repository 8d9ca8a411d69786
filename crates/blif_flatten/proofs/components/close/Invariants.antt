use Rattle.std.proofs.Common.{◌≡◌, length}
use Rattle.blif_flatten.proofs.components.close.Given as goal

abbrev pub invariant-loop-member : goal.invariant-loop-member
invariant-loop-member l = length l.all.component.items ≡ length l.initial.all.component.items

abbrev pub decreases-loop-member : goal.decreases-loop-member
decreases-loop-member l = length l.all.open.items
