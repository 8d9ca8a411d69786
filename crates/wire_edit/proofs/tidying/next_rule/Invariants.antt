use Rattle.std.proofs.Common.{◌≡◌, length}
use Rattle.gate_graph.specs.Circuit.{net_of}
use Rattle.wire_edit.specs.Inner.Known.{IsKept}
use Rattle.wire_edit.specs.Inner.Marked.{IsQuiet, marks_left}
use Rattle.wire_edit.proofs.tidying.next_rule.Given as goal

abbrev pub invariant-loop-number : goal.invariant-loop-number
invariant-loop-number l = record {
  quiet : IsQuiet (net_of l.graph) l.worklist;
  count : length l.worklist ≡ length l.fn.worklist;
  seen : l.seen ≡ l.fn.seen;
  kept : IsKept (net_of l.graph) l.kept;
  same : length l.kept.marks.items ≡ length l.fn.kept.marks.items;
}

abbrev pub decreases-loop-number : goal.decreases-loop-number
decreases-loop-number l = marks_left l.worklist
