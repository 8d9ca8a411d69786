use Rattle.std.proofs.Common.{ap, subst, ◌∙◌}
use Rattle.gate_graph.specs.Circuit.{Circuit, net_of}
use Rattle.gate_net.specs.Net.{IsWellFormed}
use Rattle.wire_edit.specs.declared.room.Room.{Room}
use Rattle.care_opt.proofs.Going.{fixed_once, kept_unrefused}
use Rattle.care_opt.proofs.working.fix_once.Goals as goal

pub unreachable-requires : goal.unreachable-requires
unreachable-requires c =
    let formed : IsWellFormed (net_of c.args.trial.now.graph) = subst (λ (v : Circuit). IsWellFormed (net_of v)) c.graph.ensures c.well_formed-2.ensures.net in
    kept_unrefused c.fixes_lower.ensures.applies c.answers_agree.ensures.made c.room_suffices.ensures.fixes c.args.bound c.args.trial.now c.keep.new.self c.args.fault c.in-Err._refusal formed c.requires.tidy c.requires.fault
    c.keep.ensures.net (ap (λ (r : Room). r.steps) c.keep.ensures.room) c.requires.space c.in-Err.ensures.answer

pub returns-clause-works : goal.returns-clause-works
returns-clause-works c =
    let formed : IsWellFormed (net_of c.args.trial.now.graph) = subst (λ (v : Circuit). IsWellFormed (net_of v)) c.graph.ensures c.well_formed-2.ensures.net in
    (fixed_once c.runs_join.ensures c.fixes_lower.ensures.applies c.tidying_ends.ensures.fixes c.args.bound c.args.trial.now c.keep.new.self c.apply.new.self c.args.made.now c.args.fault formed c.requires.tidy c.requires.fault c.requires.refuted
    c.keep.ensures.net (ap (λ (r : Room). r.steps) c.keep.ensures.first ∙ ap (λ (r : Room). r.steps) c.keep.ensures.room) c.in-Ok.ensures.net c.apply.ensures.first).0

pub returns-clause-fell : goal.returns-clause-fell
returns-clause-fell c =
    let formed : IsWellFormed (net_of c.args.trial.now.graph) = subst (λ (v : Circuit). IsWellFormed (net_of v)) c.graph.ensures c.well_formed-2.ensures.net in
    (fixed_once c.runs_join.ensures c.fixes_lower.ensures.applies c.tidying_ends.ensures.fixes c.args.bound c.args.trial.now c.keep.new.self c.apply.new.self c.args.made.now c.args.fault formed c.requires.tidy c.requires.fault c.requires.refuted
    c.keep.ensures.net (ap (λ (r : Room). r.steps) c.keep.ensures.first ∙ ap (λ (r : Room). r.steps) c.keep.ensures.room) c.in-Ok.ensures.net c.apply.ensures.first).1
