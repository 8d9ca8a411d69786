use Rattle.gate_graph.specs.Circuit.{net_of}
use Rattle.ternary_sim.specs.Sims.{Fits}
use Rattle.reasoning_tests.proofs.assignments.detects.Given as goal

abbrev pub invariant-loop-source : goal.invariant-loop-source
invariant-loop-source l = Fits l.sim (net_of l.question.graph.now)
