use Rattle.gate_graph.specs.Circuit.{net_of}
use Rattle.implications.proofs.beginning.write_outside.Given as goal
use Rattle.implications.specs.Outside.{WritesBelow}

abbrev pub invariant-loop-number : goal.invariant-loop-number
invariant-loop-number l = WritesBelow (net_of l.question.graph.now) l.question.fault l.number l.initial.tree l.tree
