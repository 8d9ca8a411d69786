use Rattle.std.proofs.Common.{true}
use Rattle.wire_edit.proofs.Touching.{Walked, Met}
use Rattle.wire_edit.proofs.touch.mark_readers.Given as goal

abbrev pub invariant-loop-reader : goal.invariant-loop-reader
invariant-loop-reader l = record {
  walked : Walked l.graph l.fn.node.0 (λ y. true) l.fn.worklist l.worklist l.reader-iterator;
  met : Met l.graph l.fn.node.0 l.found l.reader-iterator;
}
