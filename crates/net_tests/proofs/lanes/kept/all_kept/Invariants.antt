use Rattle.gate_graph.specs.Circuit.{net_of}
use Rattle.fault_sim.specs.BlockStates.{AreSimulated}
use Rattle.net_tests.proofs.lanes.kept.all_kept.Given as goal

abbrev pub invariant-loop-block : goal.invariant-loop-block
invariant-loop-block l = AreSimulated l.blocks (net_of l.graph)
