use Rattle.std.proofs.Common.{◌*◌, ◌+◌, ◌-◌}
use Rattle.gate_graph.specs.Circuit.{net_of}
use Rattle.recursive_learning.specs.Serving.{IsServing}
use Rattle.wire_edit.specs.Work.{work}
use Rattle.care_opt.specs.Inner.Kept.{AreKept}
use Rattle.care_opt.specs.Inner.Working.{HasFallen, Works}
use Rattle.care_opt.specs.MainSteps.{IsMainTidy}
use Rattle.care_opt.proofs.sweeping.pass.Given as goal

abbrev pub invariant-loop-gate : goal.invariant-loop-gate
invariant-loop-gate l = record {
  works : Works l.bound l.initial.trial l.trial l.initial.made l.made;
  tidy : IsMainTidy l.bound (net_of l.trial.graph);
  fell : HasFallen l.has_fixed l.initial.trial l.trial;
  serves : IsServing (net_of l.trial.graph) l.refuter;
  kept : AreKept l.vectors (net_of l.trial.graph);
}

abbrev pub decreases-loop-gate : goal.decreases-loop-gate
decreases-loop-gate l = work (net_of l.trial.graph) * 4294967296 + (4294967296 - l.gate)
