use Rattle.gate_graph.specs.Circuit.{net_of}
use Rattle.ternary_sim.specs.Sims.{Fits}
use Rattle.net_tests.proofs.lanes.drawn.agree.Given as goal

abbrev pub invariant-loop-eighth : goal.invariant-loop-eighth
invariant-loop-eighth l = Fits l.sim (net_of l.graph)
