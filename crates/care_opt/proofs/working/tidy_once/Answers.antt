use Rattle.std.proofs.Common.{subst}
use Rattle.std.specs.Prelude.{None}
use Rattle.gate_graph.specs.Circuit.{Circuit, net_of}
use Rattle.gate_net.specs.Net.{IsWellFormed}
use Rattle.care_opt.specs.Inner.Working.{HasStepped}
use Rattle.care_opt.proofs.Going.{none_made, none_of, once_back, once_made}
use Rattle.care_opt.proofs.working.tidy_once.Goals as goal

pub returns-in_default-clause-works : goal.returns-in_default-clause-works
returns-in_default-clause-works c =
    let h : HasStepped c.args.trial.now c.next_step.new.trial None = subst (HasStepped c.args.trial.now c.next_step.new.trial) (none_of c.next_step.result c.in_default.not-Some) c.next_step.ensures in
    (none_made c.args.bound c.args.trial.now h.0 c.next_step.new.trial c.args.made.now c.order_tells.ensures.tidy h.1).0

pub returns-in_default-clause-tidy : goal.returns-in_default-clause-tidy
returns-in_default-clause-tidy c = λ is.
    let h : HasStepped c.args.trial.now c.next_step.new.trial None = subst (HasStepped c.args.trial.now c.next_step.new.trial) (none_of c.next_step.result c.in_default.not-Some) c.next_step.ensures in
    (none_made c.args.bound c.args.trial.now h.0 c.next_step.new.trial c.args.made.now c.order_tells.ensures.tidy h.1).1

pub returns-then-not-main-clause-works : goal.returns-then-not-main-clause-works
returns-then-not-main-clause-works c =
    (once_back c.args.bound c.args.trial.now c.in-Some.ensures.0 c.next_step.new.trial c.args.made.now c.in-Some.step c.take_back.new.self c.in-Some.ensures.1 (c.is_main-main.ensures.other c.if-not-main.true) c.take_back.ensures.graph c.take_back.ensures.first).0

pub returns-then-not-main-clause-tidy : goal.returns-then-not-main-clause-tidy
returns-then-not-main-clause-tidy c = λ is.
    (once_back c.args.bound c.args.trial.now c.in-Some.ensures.0 c.next_step.new.trial c.args.made.now c.in-Some.step c.take_back.new.self c.in-Some.ensures.1 (c.is_main-main.ensures.other c.if-not-main.true) c.take_back.ensures.graph c.take_back.ensures.first).1

pub returns-clause-works : goal.returns-clause-works
returns-clause-works c =
    let formed : IsWellFormed (net_of c.args.trial.now.graph) = subst (λ (v : Circuit). IsWellFormed (net_of v)) c.graph.ensures c.well_formed-2.ensures.net in
    (once_made c.args.bound c.args.trial.now c.in-Some.ensures.0 c.next_step.new.trial c.args.made.now c.runs_join.ensures c.order_tells.ensures.next c.tidying_ends.ensures.tidying c.in-Some.step formed c.in-Some.ensures.1 (c.is_main-main.ensures.main c.if-not-main.false)).0

pub returns-clause-fell : goal.returns-clause-fell
returns-clause-fell c =
    let formed : IsWellFormed (net_of c.args.trial.now.graph) = subst (λ (v : Circuit). IsWellFormed (net_of v)) c.graph.ensures c.well_formed-2.ensures.net in
    (once_made c.args.bound c.args.trial.now c.in-Some.ensures.0 c.next_step.new.trial c.args.made.now c.runs_join.ensures c.order_tells.ensures.next c.tidying_ends.ensures.tidying c.in-Some.step formed c.in-Some.ensures.1 (c.is_main-main.ensures.main c.if-not-main.false)).1
