use Rattle.gate_graph.specs.Circuit.{net_of}
use Rattle.fault_sim.specs.LaneStates.{Fits, IsSimulated}
use Rattle.fault_sim.specs.Observing.{AreObservabilities}
use Rattle.net_tests.proofs.lanes.shared.all_same.Given as goal

abbrev pub invariant-loop-number : goal.invariant-loop-number
invariant-loop-number l = record {
  fits : Fits l.lanes (net_of l.graph);
  simulated : IsSimulated l.lanes (net_of l.graph);
  right : AreObservabilities l.notes (net_of l.graph) l.lanes.words;
}
