use Rattle.gate_graph.specs.Circuit.{net_of}
use Rattle.local_evaluation.proofs.chains.is_in_chain.Given as goal
use Rattle.local_evaluation.specs.Walks.{Walks}

abbrev pub invariant-loop-step : goal.invariant-loop-step
invariant-loop-step l = Walks (net_of l.graph) l.fn.gate.0 l.node.0 l.at.0 l._step
