use Rattle.std.specs.Prelude.{reverse}
use Rattle.window_cut.proofs.Walks.{IsOn}
use Rattle.window_cut.specs.Inner.Walk.{due_steps, visit}
use Rattle.window_cut.proofs.walk.visit.Given as goal

abbrev pub invariant-loop-frame : goal.invariant-loop-frame
invariant-loop-frame l = IsOn l.model (visit l.model l.fn.order.items l.name) l.order.items (reverse l.stack.items) l.marks

abbrev pub decreases-loop-frame : goal.decreases-loop-frame
decreases-loop-frame l = due_steps l.model (reverse l.stack.items)
