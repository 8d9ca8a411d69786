use Rattle.fault_sim.specs.LaneStates.{Fits}
use Rattle.gate_graph.specs.Circuit.{net_of}
use Rattle.equal_sweep.proofs.drawing.drawn_test.Given as goal

abbrev pub invariant-loop-block : goal.invariant-loop-block
invariant-loop-block l = Fits l.lanes (net_of l.question.graph.now)
