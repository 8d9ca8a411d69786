use Rattle.std.proofs.Common.{refl, subst}
use Rattle.gate_graph.specs.Circuit.{Circuit, net_of}
use Rattle.recursive_learning.specs.Serving.{IsServing}
use Rattle.care_opt.specs.Inner.Kept.{AreKept}
use Rattle.care_opt.specs.Inner.Passing.{IsPassed}
use Rattle.care_opt.specs.declared.closing.Passed.{Passed}
use Rattle.care_opt.proofs.Going.{few_left, space_left, works_same, works_then}
use Rattle.care_opt.proofs.Refuted.{fault_of}
use Rattle.care_opt.proofs.closing.close_main.Goals as goal

pub loop-passed-init : goal.loop-passed-init
loop-passed-init c = record { works = works_same c.args.bound c.args.trial.now c.args.trial.now c.args.made.now refl refl; tidy = c.requires.tidy; serves = c.requires.serves; kept = c.requires.kept }

pub loop-passed-preserved : goal.loop-passed-preserved
loop-passed-preserved c = record {
  works = works_then c.runs_join.ensures c.args.bound c.args.trial.now c.loop-passed.trial c.fix_main.new.trial c.args.made.now c.loop-passed.made c.fix_main.new.made c.loop-passed.invariant.works c.fix_main.ensures.works;
  tidy = c.fix_main.ensures.tidy;
  serves = subst (λ (v : Circuit). IsServing (net_of v) c.fit.new.self) c.graph.ensures c.in_ok-fit-in-Refuted.ensures.serves;
  kept = subst (λ (v : Circuit). AreKept c.fit-in-Refuted.new.self (net_of v)) c.graph-in-Refuted.ensures c.in_ok-fit-in-Refuted-2.ensures;
}

pub fix_main-requires-clause-fault : goal.fix_main-requires-clause-fault
fix_main-requires-clause-fault c =
    (fault_of c.args.bound (net_of c.loop-passed.trial.graph) c.args.depth c.args.budget c.in_ok-passed.passed c.in-Refuted.fault c.in-Refuted.is
    (subst (λ (v : Circuit). IsPassed c.args.bound (net_of v) c.args.depth c.args.budget c.in_ok-passed.passed) c.graph-graph.ensures c.in_ok-passed.ensures.passed)).0

pub fix_main-requires-clause-refuted : goal.fix_main-requires-clause-refuted
fix_main-requires-clause-refuted c =
    (fault_of c.args.bound (net_of c.loop-passed.trial.graph) c.args.depth c.args.budget c.in_ok-passed.passed c.in-Refuted.fault c.in-Refuted.is
    (subst (λ (v : Circuit). IsPassed c.args.bound (net_of v) c.args.depth c.args.budget c.in_ok-passed.passed) c.graph-graph.ensures c.in_ok-passed.ensures.passed)).1

pub fix_main-requires-clause-space : goal.fix_main-requires-clause-space
fix_main-requires-clause-space c = space_left c.args.bound c.args.trial.now c.loop-passed.trial c.args.made.now c.loop-passed.made c.loop-passed.invariant.works c.requires.space

pub fix_main-requires-clause-few : goal.fix_main-requires-clause-few
fix_main-requires-clause-few c = few_left c.args.bound c.args.trial.now c.loop-passed.trial c.args.made.now c.loop-passed.made c.loop-passed.invariant.works c.requires.few

pub returns-in-Closed-clause-works : goal.returns-in-Closed-clause-works
returns-in-Closed-clause-works c = c.loop-passed.invariant.works

pub returns-in-Closed-clause-records : goal.returns-in-Closed-clause-records
returns-in-Closed-clause-records c =
    (subst (λ (q : Passed). IsPassed c.args.bound (net_of c.loop-passed.trial.graph) c.args.depth c.args.budget q) c.in-Closed.is
    (subst (λ (v : Circuit). IsPassed c.args.bound (net_of v) c.args.depth c.args.budget c.in_ok-passed.passed) c.graph-graph.ensures c.in_ok-passed.ensures.passed)).0

pub returns-in-Closed-clause-unrefuted : goal.returns-in-Closed-clause-unrefuted
returns-in-Closed-clause-unrefuted c =
    (subst (λ (q : Passed). IsPassed c.args.bound (net_of c.loop-passed.trial.graph) c.args.depth c.args.budget q) c.in-Closed.is
    (subst (λ (v : Circuit). IsPassed c.args.bound (net_of v) c.args.depth c.args.budget c.in_ok-passed.passed) c.graph-graph.ensures c.in_ok-passed.ensures.passed)).1
