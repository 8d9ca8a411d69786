use Rattle.std.proofs.Common.{length, ◌≡◌}
use Rattle.ternary_sim.proofs.tracker.undo_all.Given as goal
use Rattle.ternary_sim.specs.Inner.Tracking.{AreInside, first_marks}

abbrev pub invariant-loop-entry : goal.invariant-loop-entry
invariant-loop-entry l = record {
  first : first_marks l.table.marks l.trail.items ≡ first_marks l.initial.table.marks l.initial.trail.items;
  inside : AreInside (length l.table.marks) l.trail.items;
  size : length l.table.marks ≡ length l.initial.table.marks;
  watched : l.table.watched ≡ l.initial.table.watched;
}

abbrev pub decreases-loop-entry : goal.decreases-loop-entry
decreases-loop-entry l = length l.trail.items
