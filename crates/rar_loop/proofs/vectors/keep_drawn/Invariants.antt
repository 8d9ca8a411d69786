use Rattle.gate_graph.specs.Circuit.{net_of}
use Rattle.fault_sim.specs.BlockStates.{AreSimulated}
use Rattle.rar_loop.proofs.vectors.keep_drawn.Given as goal

abbrev pub invariant-loop-number : goal.invariant-loop-number
invariant-loop-number l = AreSimulated l.blocks (net_of l.graph)
