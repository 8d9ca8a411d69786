use Rattle.std.proofs.Common.{◌≡◌}
use Rattle.wire_edit.specs.Inner.Marked.{marks_left, IsBlocked}
use Rattle.wire_edit.proofs.worklist.Worklist.least.Given as goal

abbrev pub invariant-loop-block : goal.invariant-loop-block
invariant-loop-block l = record {
  blocked : IsBlocked l.self-inside.marks.items l.self-inside.blocks.items;
  same : l.self-inside.marks.items ≡ l.fn.self;
}

abbrev pub decreases-loop-block : goal.decreases-loop-block
decreases-loop-block l = marks_left l.self-inside.blocks.items
