use Rattle.rar_loop.specs.Inner.Kept.{AreAsked}
use Rattle.std.proofs.Common.{length}
use Rattle.rar_loop.proofs.vectors.forget.Given as goal

abbrev pub invariant-loop-gate : goal.invariant-loop-gate
invariant-loop-gate l = record { listed : AreAsked l.turned.items l.asked.items }

abbrev pub decreases-loop-gate : goal.decreases-loop-gate
decreases-loop-gate l = length l.asked.items
