use Rattle.fault_sim.specs.LaneStates.{Fits}
use Rattle.gate_graph.specs.Circuit.{net_of}
use Rattle.podem.specs.Searchers.{Serves}
use Rattle.fault_decision.specs.Serving.{IsServing as DecidesOn}
use Rattle.std.proofs.Common.{take}
use Rattle.std.specs.Prelude.{IfSome}
use Rattle.recursive_learning.specs.Serving.{IsServing}
use Rattle.closing_pass.specs.Verdicts.{AreVerdicts}
use Rattle.closing_pass.proofs.answering.answer_each.Given as goal

abbrev pub invariant-loop-fault : goal.invariant-loop-fault
invariant-loop-fault l = record {
  verdicts : AreVerdicts (net_of l.graph) l.settings.budget (take l.fault-index l.faults) l.verdicts.items;
  refutes : IsServing (net_of l.graph) l.refuter;
  searches : Serves l.tools.searcher (net_of l.graph);
  fits : Fits l.tools.lanes (net_of l.graph);
  decides : IfSome l.decider (DecidesOn (net_of l.graph));
}
