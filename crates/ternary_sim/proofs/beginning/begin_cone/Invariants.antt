use Rattle.std.proofs.Common.{Bool, List, Some, length, map, ℕ, ◌+◌, ◌≡◌, ◌≤◌}
use Rattle.std.specs.Prelude.{Option, slice_get}
use Rattle.gate_graph.specs.Circuit.{net_of}
use Rattle.gate_graph.specs.Search.{IsSeen}
use Rattle.ternary_sim.proofs.beginning.begin_cone.Given as goal
use Rattle.ternary_sim.specs.Regions.{IsTouched}
use Rattle.ternary_sim.specs.Inner.Settling.{HasBegun, plain_marks}
use Rattle.ternary_sim.specs.Inner.Tracking.{AreInside, first_marks, marks_before}

abbrev pub invariant-loop-place : goal.invariant-loop-place
invariant-loop-place l = record {
  begun : (base : List (Option Bool)) → l.fn.table.marks ≡ map plain_marks base → HasBegun base l.table.marks l.worklist;
  on : (k x : ℕ) → slice_get l.reached k ≡ Some x → l.count ≤ k + l.place → IsSeen l.worklist x;
  only : (x : ℕ) → IsSeen l.worklist x → IsTouched (net_of l.graph) l.fn.gate.0 x;
  before : marks_before l.table.marks l.trail.items ≡ marks_before l.fn.table.marks l.fn.trail.items;
  first : first_marks l.table.marks l.trail.items ≡ first_marks l.fn.table.marks l.fn.trail.items;
  inside : AreInside (length l.table.marks) l.trail.items;
  size : length l.table.marks ≡ length l.fn.table.marks;
  watched : l.table.watched ≡ l.fn.table.watched;
  room : length l.worklist ≡ length l.fn.worklist;
}
