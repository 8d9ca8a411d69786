use Rattle.std.proofs.Common.{◌≡◌}
use Rattle.gate_graph.specs.Circuit.{net_of}
use Rattle.fault_sim.specs.LaneStates.{Fits, IsSimulated}
use Rattle.net_tests.proofs.lanes.followed.same_at_all.Given as goal

abbrev pub invariant-loop-number : goal.invariant-loop-number
invariant-loop-number l = record {
  one : l.one ≡ l.fn.one;
  fits : Fits l.other (net_of l.graph);
  simulated : IsSimulated l.other (net_of l.graph);
}
