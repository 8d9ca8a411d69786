use Rattle.gate_graph.specs.Circuit.{net_of}
use Rattle.ternary_sim.specs.Sims.{Fits}
use Rattle.net_tests.proofs.lanes.kept.first_read.Given as goal

abbrev pub invariant-loop-number : goal.invariant-loop-number
invariant-loop-number l = Fits l.sim (net_of l.question.graph.now)
