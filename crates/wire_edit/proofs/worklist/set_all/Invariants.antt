use Rattle.std.proofs.Common.{◌≡◌, ◌<◌, ℕ, true, length}
use Rattle.wire_edit.specs.Inner.Marked.{is_marked}
use Rattle.wire_edit.proofs.worklist.set_all.Given as goal

abbrev pub invariant-loop-place : goal.invariant-loop-place
invariant-loop-place l = record {
  count : length l.marks.items ≡ length l.fn.marks.items;
  all : (k : ℕ) → k < l.place → is_marked l.marks.items k ≡ true;
}
