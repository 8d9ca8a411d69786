use Rattle.std.proofs.Common.{refl, subst}
use Rattle.gate_graph.specs.Circuit.{Circuit, net_of}
use Rattle.care_opt.specs.Inner.Working.{IsFoundAt}
use Rattle.care_opt.proofs.Going.{works_same}
use Rattle.care_opt.proofs.Refuted.{found_main}
use Rattle.care_opt.proofs.sweeping.sweep_at.Goals as goal

pub fix_main-requires-clause-fault : goal.fix_main-requires-clause-fault
fix_main-requires-clause-fault c =
    (found_main c.args.bound (net_of c.args.trial.now.graph) c.args.gate.0 c.in-Some.fault c.in_ok-found.found c.requires.gate c.in-Some.is
    (subst (λ (v : Circuit). IsFoundAt (net_of v) c.args.gate.0 c.in_ok-found.found) c.graph-graph.ensures c.in_ok-found.ensures.found)).0

pub fix_main-requires-clause-refuted : goal.fix_main-requires-clause-refuted
fix_main-requires-clause-refuted c =
    (found_main c.args.bound (net_of c.args.trial.now.graph) c.args.gate.0 c.in-Some.fault c.in_ok-found.found c.requires.gate c.in-Some.is
    (subst (λ (v : Circuit). IsFoundAt (net_of v) c.args.gate.0 c.in_ok-found.found) c.graph-graph.ensures c.in_ok-found.ensures.found)).1

pub returns-in-None-clause-works : goal.returns-in-None-clause-works
returns-in-None-clause-works c = works_same c.args.bound c.args.trial.now c.args.trial.now c.args.made.now refl refl
