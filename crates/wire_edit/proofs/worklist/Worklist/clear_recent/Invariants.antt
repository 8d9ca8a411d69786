use Rattle.std.proofs.Common.{◌≡◌, length}
use Rattle.wire_edit.specs.Inner.Marked.{IsBlocked}
use Rattle.wire_edit.proofs.worklist.Worklist.clear_recent.Given as goal

abbrev pub invariant-loop-number : goal.invariant-loop-number
invariant-loop-number l = record {
  blocked : IsBlocked l.self-inside.marks.items l.self-inside.blocks.items;
  count : length l.self-inside.marks.items ≡ length l.fn.self;
}

abbrev pub decreases-loop-number : goal.decreases-loop-number
decreases-loop-number l = length l.self-inside.recent.items
