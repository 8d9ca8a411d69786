use Rattle.std.proofs.Common.{◌≡◌, ◌+◌}
use Rattle.std.specs.Prelude.{reverse}
use Rattle.blif_flatten.specs.Instances.{instance_count, whole}
use Rattle.blif_flatten.specs.Inner.Walk.{joined, due, due_count, due_steps, pieces_in}
use Rattle.blif_flatten.specs.Recursion.{links_of}
use Rattle.blif_flatten.proofs.walk.walk_calls.Given as goal

abbrev pub invariant-loop-frame : goal.invariant-loop-frame
invariant-loop-frame l = (joined l.out (due l.lead l.modules l.instances (reverse l.stack.items)) ≡ joined l.fn.start (pieces_in l.lead 0 1 (whole l.modules (links_of l.modules l.fn.top))))
    × (l.instances + due_count l.modules (reverse l.stack.items) ≡ 1 + instance_count (whole l.modules (links_of l.modules l.fn.top)))

abbrev pub decreases-loop-frame : goal.decreases-loop-frame
decreases-loop-frame l = due_steps l.modules (reverse l.stack.items)
