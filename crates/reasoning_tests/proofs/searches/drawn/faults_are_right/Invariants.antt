use Rattle.gate_graph.specs.Circuit.{net_of}
use Rattle.podem.specs.Searchers.{Serves}
use Rattle.reasoning_tests.proofs.searches.drawn.faults_are_right.Given as goal

abbrev pub invariant-loop-number : goal.invariant-loop-number
invariant-loop-number l = Serves l.searcher (net_of l.graph)
