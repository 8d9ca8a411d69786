use Rattle.gate_graph.specs.Circuit.{net_of}
use Rattle.recursive_learning.specs.Serving.{IsServing}
use Rattle.wire_edit.specs.Work.{work}
use Rattle.care_opt.specs.Inner.Kept.{AreKept}
use Rattle.care_opt.specs.Inner.Working.{Works}
use Rattle.care_opt.specs.MainSteps.{IsMainTidy}
use Rattle.care_opt.proofs.closing.close_main.Given as goal

abbrev pub invariant-loop-passed : goal.invariant-loop-passed
invariant-loop-passed l = record {
  works : Works l.bound l.initial.trial l.trial l.initial.made l.made;
  tidy : IsMainTidy l.bound (net_of l.trial.graph);
  serves : IsServing (net_of l.trial.graph) l.refuter;
  kept : AreKept l.vectors (net_of l.trial.graph);
}

abbrev pub decreases-loop-passed : goal.decreases-loop-passed
decreases-loop-passed l = work (net_of l.trial.graph)
