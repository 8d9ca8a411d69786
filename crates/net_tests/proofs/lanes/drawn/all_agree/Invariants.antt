use Rattle.gate_graph.specs.Circuit.{net_of}
use Rattle.fault_sim.specs.LaneStates.{Fits}
use Rattle.ternary_sim.specs.Sims as sims
use Rattle.net_tests.proofs.lanes.drawn.all_agree.Given as goal

abbrev pub invariant-loop-fifth : goal.invariant-loop-fifth
invariant-loop-fifth l = record { lanes : Fits l.lanes (net_of l.graph); sim : sims.Fits l.sim (net_of l.graph) }
