use Rattle.gate_graph.specs.Search.{AreBelow}
use Rattle.wire_edit.proofs.Repeating.{AreAmong}
use Rattle.std.proofs.Common.{length}
use Rattle.wire_edit.proofs.seen.unmark_drivers.Given as goal

abbrev pub invariant-loop-driver : goal.invariant-loop-driver
invariant-loop-driver l = record {
  among : AreAmong l.driver-iterator l.left l.marks;
  within : AreBelow l.driver-iterator (length l.marks);
}
