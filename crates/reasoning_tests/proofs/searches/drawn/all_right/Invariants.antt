use Rattle.gate_graph.specs.Circuit.{net_of}
use Rattle.podem.specs.Searchers.{Serves}
use Rattle.reasoning_tests.proofs.searches.drawn.all_right.Given as goal

abbrev pub invariant-loop-budget : goal.invariant-loop-budget
invariant-loop-budget l = Serves l.searcher (net_of l.graph)
