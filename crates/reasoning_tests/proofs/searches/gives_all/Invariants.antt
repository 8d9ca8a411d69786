use Rattle.gate_graph.specs.Circuit.{net_of}
use Rattle.reasoning_tests.proofs.searches.gives_all.Given as goal
use Rattle.podem.specs.Searchers.{Serves}

abbrev pub invariant-loop-case : goal.invariant-loop-case
invariant-loop-case l = Serves l.searcher (net_of l.graph)
