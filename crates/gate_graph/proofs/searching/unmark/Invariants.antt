use Rattle.gate_graph.specs.Inner.Search.{ListsSeen}
use Rattle.gate_graph.proofs.searching.unmark.Given as goal

abbrev pub invariant-loop-i : goal.invariant-loop-i
invariant-loop-i l = ListsSeen l.seen l.queue l.i l.end
