use Rattle.gate_graph.specs.Circuit.{net_of}
use Rattle.reasoning_tests.proofs.learning.refuters.agrees_on_graph.Given as goal
use Rattle.recursive_learning.specs.Serving.{IsServing}

abbrev pub invariant-loop-at : goal.invariant-loop-at
invariant-loop-at l = IsServing (net_of l.graph) l.refuter
