use Rattle.std.proofs.Common.{◌∷◌, [], arith, sym, subst}
use Rattle.gate_net.specs.Edits.{IsLeastFree}
use Rattle.gate_net.specs.Net.{IsWellFormed}
use Rattle.gate_graph.specs.Circuit.{Circuit, net_of}
use Rattle.wire_edit.specs.Tried.{Tried}
use Rattle.merging.specs.Inner.Going.{Follows, Goes}
use Rattle.merging.proofs.GoingOn.{follows_none, follows_steps, goes_more, goes_none, not_changes, not_step}
use Rattle.merging.proofs.joining.make_not.Goals as goal

pub returns-in-Err-clause-follows : goal.returns-in-Err-clause-follows
returns-in-Err-clause-follows c = subst (λ (t : Tried). Follows c.args.space.now (record c.args.space.now { trial = t })) (sym c.in-Err.ensures.refused) (follows_none c.args.space.now c.requires.serves)

pub returns-in-Err-clause-goes : goal.returns-in-Err-clause-goes
returns-in-Err-clause-goes c = subst (λ (t : Tried). Goes 1 5 c.args.space.now.trial t c.args.log.now.items c.args.log.now.items) (sym c.in-Err.ensures.refused)
    (goes_more 0 0 1 5 c.args.space.now.trial c.args.space.now.trial c.args.log.now.items c.args.log.now.items (omega arith) (omega arith) (goes_none c.args.space.now.trial c.args.log.now.items))

pub follow-requires : goal.follow-requires
follow-requires c =
    let least : IsLeastFree (net_of c.args.space.now.trial.graph) c.least_free-number.result.0 = subst (λ (v : Circuit). IsLeastFree (net_of v) c.least_free-number.result.0) c.graph-2.ensures c.least_free-number.ensures in
    record { follows = (net_of c.args.space.now.trial.graph, (c.requires.serves, not_changes c.args.space.now.trial.graph c.apply.new.self.graph c.args.node c.least_free-number.result c.in-Ok.ensures.readers least)) }

pub returns-clause-follows : goal.returns-clause-follows
returns-clause-follows c =
    let least : IsLeastFree (net_of c.args.space.now.trial.graph) c.least_free-number.result.0 = subst (λ (v : Circuit). IsLeastFree (net_of v) c.least_free-number.result.0) c.graph-2.ensures c.least_free-number.ensures in
    follows_steps c.args.space.now c.follow.new.self c.apply.new.self (c.least_free-number.result ∷ []) c.follow.ensures.trial (record { start = c.apply.ensures.start; first = c.apply.ensures.first; holds = c.apply.ensures.held })
    (not_changes c.args.space.now.trial.graph c.apply.new.self.graph c.args.node c.least_free-number.result c.in-Ok.ensures.readers least) c.in_ok-follow.ensures.serves c.in_ok-follow.ensures.touched

pub returns-clause-goes : goal.returns-clause-goes
returns-clause-goes c =
    let formed : IsWellFormed (net_of c.args.space.now.trial.graph) = subst (λ (v : Circuit). IsWellFormed (net_of v)) c.graph.ensures c.well_formed-2.ensures.net in
    subst (λ (t : Tried). Goes 1 5 c.args.space.now.trial t c.args.log.now.items c.push_local.new.log.items) (sym c.follow.ensures.trial)
    (not_step c.room_suffices.ensures.adding c.answers_apply.ensures c.args.space.now.trial c.apply.new.self c.args.node c.args.log.now.items c.push_local.new.log.items formed c.in-Ok.ensures.answer c.in-Ok.ensures.net c.in-Ok.ensures.room c.in_ok-push_local.ensures)
