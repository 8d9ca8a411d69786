use Rattle.gate_graph.specs.Circuit.{net_of}
use Rattle.fault_sim.specs.BlockStates.{AreSimulated}
use Rattle.care_opt.proofs.vectors.keep_all.Given as goal

abbrev pub invariant-loop-words : goal.invariant-loop-words
invariant-loop-words l = AreSimulated l.blocks (net_of l.graph)
