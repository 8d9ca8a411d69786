use Rattle.gate_graph.specs.Circuit.{net_of}
use Rattle.wire_edit.specs.Tests.{is_not}
use Rattle.wire_edit.proofs.Touching.{Walked}
use Rattle.wire_edit.proofs.touch.mark_nots.Given as goal

abbrev pub invariant-loop-reader : goal.invariant-loop-reader
invariant-loop-reader l = Walked l.graph l.fn.node.0 (is_not (net_of l.graph)) l.fn.worklist l.worklist l.reader-iterator
