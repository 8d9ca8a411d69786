use Rattle.gate_graph.specs.Circuit.{net_of}
use Rattle.ternary_sim.specs.Sims.{Fits}
use Rattle.reasoning_tests.proofs.assignments.some_detects.Given as goal

abbrev pub invariant-loop-assignment : goal.invariant-loop-assignment
invariant-loop-assignment l = Fits l.sim (net_of l.question.graph.now)
