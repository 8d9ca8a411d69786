use Rattle.gate_graph.specs.Circuit.{net_of}
use Rattle.wire_edit.specs.Work.{work}
use Rattle.care_opt.specs.Inner.Working.{Works}
use Rattle.care_opt.proofs.working.tidy_main.Given as goal

abbrev pub invariant-loop-bound : goal.invariant-loop-bound
invariant-loop-bound l = Works l.bound l.initial.trial l.trial l.initial.made l.made

abbrev pub decreases-loop-bound : goal.decreases-loop-bound
decreases-loop-bound l = work (net_of l.trial.graph)
