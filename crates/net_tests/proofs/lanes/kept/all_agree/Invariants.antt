use Rattle.gate_graph.specs.Circuit.{net_of}
use Rattle.ternary_sim.specs.Sims.{Fits}
use Rattle.fault_sim.specs.BlockStates.{AreSimulated}
use Rattle.net_tests.proofs.lanes.kept.all_agree.Given as goal

abbrev pub invariant-loop-seventh : goal.invariant-loop-seventh
invariant-loop-seventh l = record { blocks : AreSimulated l.blocks (net_of l.graph); sim : Fits l.sim (net_of l.graph) }
