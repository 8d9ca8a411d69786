use Rattle.std.proofs.Common.{◌≡◌}
use Rattle.gate_graph.specs.Circuit.{net_of}
use Rattle.fault_sim.specs.BlockStates.{AreSimulated}
use Rattle.net_tests.proofs.lanes.followed.blocks_agree.Given as goal

abbrev pub invariant-loop-number : goal.invariant-loop-number
invariant-loop-number l = record {
  blocks : l.blocks ≡ l.fn.blocks;
  fresh : AreSimulated l.fresh (net_of l.graph);
}
