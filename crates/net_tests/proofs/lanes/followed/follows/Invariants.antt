use Rattle.std.proofs.Common.{◌+◌, ◌≤◌}
use Rattle.gate_graph.specs.Circuit.{net_of, pins_taken}
use Rattle.fault_sim.specs.BlockStates.{AreSimulated}
use Rattle.fault_sim.specs.LaneStates.{Fits, IsSimulated}
use Rattle.net_tests.proofs.lanes.followed.follows.Given as goal

abbrev pub invariant-loop-number : goal.invariant-loop-number
invariant-loop-number l = record {
  pins : pins_taken l.graph ≤ 300000 + l.number;
  fits : Fits l.lanes (net_of l.graph);
  simulated : IsSimulated l.lanes (net_of l.graph);
  blocks : AreSimulated l.blocks (net_of l.graph);
}
