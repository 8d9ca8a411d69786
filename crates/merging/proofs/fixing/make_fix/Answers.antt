use Rattle.std.proofs.Common.{◌∷◌, [], sym, subst}
use Rattle.gate_net.specs.Net.{IsWellFormed}
use Rattle.gate_graph.specs.Circuit.{Circuit, net_of}
use Rattle.wire_edit.specs.Tried.{Tried}
use Rattle.merging.specs.Inner.Going.{Follows, Goes}
use Rattle.merging.proofs.GoingOn.{fix_changes, fixed_step, follows_none, follows_steps, goes_none}
use Rattle.merging.proofs.fixing.make_fix.Goals as goal

pub follow-requires : goal.follow-requires
follow-requires c = record { follows = (net_of c.args.space.now.trial.graph, (c.requires.serves, fix_changes (net_of c.args.space.now.trial.graph) (net_of c.apply.new.self.graph) c.args.fault c.in-Ok.ensures.net)) }

pub returns-in-Err-clause-follows : goal.returns-in-Err-clause-follows
returns-in-Err-clause-follows c = subst (λ (t : Tried). Follows c.args.space.now (record c.args.space.now { trial = t })) (sym c.in-Err.ensures.refused) (follows_none c.args.space.now c.requires.serves)

pub returns-in-Err-clause-goes : goal.returns-in-Err-clause-goes
returns-in-Err-clause-goes c = subst (λ (t : Tried). Goes 0 0 c.args.space.now.trial t c.args.log.now.items c.args.log.now.items) (sym c.in-Err.ensures.refused) (goes_none c.args.space.now.trial c.args.log.now.items)

pub returns-clause-follows : goal.returns-clause-follows
returns-clause-follows c =
    follows_steps c.args.space.now c.follow.new.self c.apply.new.self (c.args.fault.gate ∷ []) c.follow.ensures.trial (record { start = c.apply.ensures.start; first = c.apply.ensures.first; holds = c.apply.ensures.held })
    (fix_changes (net_of c.args.space.now.trial.graph) (net_of c.apply.new.self.graph) c.args.fault c.in-Ok.ensures.net) c.in_ok-follow.ensures.serves c.in_ok-follow.ensures.touched

pub returns-clause-goes : goal.returns-clause-goes
returns-clause-goes c =
    let formed : IsWellFormed (net_of c.args.space.now.trial.graph) = subst (λ (v : Circuit). IsWellFormed (net_of v)) c.graph.ensures c.well_formed-2.ensures.net in
    subst (λ (t : Tried). Goes 0 0 c.args.space.now.trial t c.args.log.now.items c.push.new.self.items) (sym c.follow.ensures.trial)
    (fixed_step c.room_suffices.ensures.fixes c.args.space.now.trial c.apply.new.self c.args.fault c.args.tree c.args.log.now.items c.push.new.self.items formed c.requires.free c.requires.accepted c.in-Ok.ensures.answer c.in-Ok.ensures.net c.in-Ok.ensures.room c.in_ok-push.ensures.items)
