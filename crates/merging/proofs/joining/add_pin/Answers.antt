use Rattle.std.proofs.Common.{◌≡◌, ◌∷◌, [], List, Option, not, length, refl, sym, ◌∙◌, ap, subst}
use Rattle.std.specs.Prelude.{IfSome}
use Rattle.gate_net.specs.Edits.{last_pin}
use Rattle.gate_net.specs.Net.{IsWellFormed, Net, drivers_of}
use Rattle.gate_graph.specs.Circuit.{Circuit, net_of}
use Rattle.recursive_learning.specs.Serving.{IsServing}
use Rattle.refutation.specs.Branches.{AreAccepted}
use Rattle.refutation.specs.declared.items.Item.{Item}
use Rattle.rm_base.specs.declared.numbers.Fault.{Fault}
use Rattle.wire_edit.specs.Steps.{stepped}
use Rattle.wire_edit.specs.Tried.{Tried}
use Rattle.wire_edit.specs.declared.steps.Step.TheVariants.{Add}
use Rattle.merging.specs.Inner.Going.{Follows, Goes}
use Rattle.merging.proofs.GoingOn.{add_changes, added_pin, added_step, follows_none, follows_refuter, follows_steps, follows_then}
use Rattle.merging.proofs.joining.add_pin.Goals as goal

pub returns-in-Err-clause-follows : goal.returns-in-Err-clause-follows
returns-in-Err-clause-follows c = subst (λ (t : Tried). Follows c.args.space.now (record c.args.space.now { trial = t })) (sym c.in-Err.ensures.refused) (follows_none c.args.space.now c.requires.serves)

pub follow-requires : goal.follow-requires
follow-requires c = record { follows = (net_of c.args.space.now.trial.graph, (c.requires.serves, add_changes (net_of c.args.space.now.trial.graph) (net_of c.apply.new.self.graph) c.args.gate c.args.node c.in-Ok.ensures.net)) }

pub invariant_of-question : goal.invariant_of-question
invariant_of-question c =
    let t : Tried = c.args.space.now.trial in
    let fault : Fault = record { gate = c.args.gate; position = c.pin_count.result; value = not c.args.control } in
    let net3 : net_of c.graph-3.result.now ≡ stepped (net_of t.graph) (Add c.args.gate c.args.node) = ap (λ (v : Circuit). net_of v) c.graph-3.ensures ∙ ap (λ (u : Tried). net_of u.graph) c.follow.ensures.trial ∙ c.in-Ok.ensures.net in
    let at : c.pin_count.result ≡ length (drivers_of (net_of t.graph) c.args.gate.0) = c.pin_count.ensures ∙ ap (λ (v : Circuit). length (drivers_of (net_of v) c.args.gate.0)) c.graph-2.ensures in
    record { pin = added_pin c.steps_grow.ensures.last c.answers_apply.ensures t (net_of c.graph-3.result.now) c.args.gate c.args.node c.pin_count.result (not c.args.control) c.in-Ok.ensures.answer net3 at }

pub returns-in-None-clause-follows : goal.returns-in-None-clause-follows
returns-in-None-clause-follows c =
    let first : Follows c.args.space.now c.follow.new.self =
    follows_steps c.args.space.now c.follow.new.self c.apply.new.self (c.args.gate ∷ []) c.follow.ensures.trial (record { start = c.apply.ensures.start; first = c.apply.ensures.first; holds = c.apply.ensures.held })
    (add_changes (net_of c.args.space.now.trial.graph) (net_of c.apply.new.self.graph) c.args.gate c.args.node c.in-Ok.ensures.net) c.in_ok-follow.ensures.serves c.in_ok-follow.ensures.touched in
    let serves : IsServing (net_of c.follow.new.self.trial.graph) c.refuted.new.refuter = subst (λ (v : Circuit). IsServing (net_of v) c.refuted.new.refuter) c.graph-3.ensures c.in_ok-refuted.ensures.serves in
    follows_then c.args.space.now c.follow.new.self (record c.follow.new.self { refuter = c.refuted.new.refuter }) first (follows_refuter c.follow.new.self (record c.follow.new.self { refuter = c.refuted.new.refuter }) refl refl serves)

pub returns-in_ok-push-in-Some-clause-follows : goal.returns-in_ok-push-in-Some-clause-follows
returns-in_ok-push-in-Some-clause-follows c =
    let first : Follows c.args.space.now c.follow.new.self =
    follows_steps c.args.space.now c.follow.new.self c.apply.new.self (c.args.gate ∷ []) c.follow.ensures.trial (record { start = c.apply.ensures.start; first = c.apply.ensures.first; holds = c.apply.ensures.held })
    (add_changes (net_of c.args.space.now.trial.graph) (net_of c.apply.new.self.graph) c.args.gate c.args.node c.in-Ok.ensures.net) c.in_ok-follow.ensures.serves c.in_ok-follow.ensures.touched in
    let serves : IsServing (net_of c.follow.new.self.trial.graph) c.refuted.new.refuter = subst (λ (v : Circuit). IsServing (net_of v) c.refuted.new.refuter) c.graph-3.ensures c.in_ok-refuted.ensures.serves in
    follows_then c.args.space.now c.follow.new.self (record c.follow.new.self { refuter = c.refuted.new.refuter }) first (follows_refuter c.follow.new.self (record c.follow.new.self { refuter = c.refuted.new.refuter }) refl refl serves)

pub returns-in_ok-push-in-Some-clause-goes : goal.returns-in_ok-push-in-Some-clause-goes
returns-in_ok-push-in-Some-clause-goes c = λ done.
    let t : Tried = c.args.space.now.trial in
    let fault : Fault = record { gate = c.args.gate; position = c.pin_count.result; value = not c.args.control } in
    let net3 : net_of c.graph-3.result.now ≡ stepped (net_of t.graph) (Add c.args.gate c.args.node) = ap (λ (v : Circuit). net_of v) c.graph-3.ensures ∙ ap (λ (u : Tried). net_of u.graph) c.follow.ensures.trial ∙ c.in-Ok.ensures.net in
    let formed : IsWellFormed (net_of t.graph) = subst (λ (v : Circuit). IsWellFormed (net_of v)) c.graph.ensures c.well_formed-2.ensures.net in
    let at : c.pin_count.result ≡ length (drivers_of (net_of t.graph) c.args.gate.0) = c.pin_count.ensures ∙ ap (λ (v : Circuit). length (drivers_of (net_of v) c.args.gate.0)) c.graph-2.ensures in
    let pin : fault ≡ last_pin (net_of t.graph) c.args.gate.0 (not c.args.control) = ap (λ (p : _). let f : Fault = record { gate = c.args.gate; position = p; value = not c.args.control } in f) at in
    let there : AreAccepted (net_of c.graph-3.result.now) fault c.in-Some.tree = subst (λ (o : Option (List Item)). IfSome o (AreAccepted (net_of c.graph-3.result.now) fault)) c.in-Some.is c.in_ok-refuted.ensures.accepted in
    let accepted : AreAccepted (net_of c.apply.new.self.graph) fault c.in-Some.tree = subst (λ (n : Net). AreAccepted n fault c.in-Some.tree) (net3 ∙ sym c.in-Ok.ensures.net) there in
    subst (λ (u : Tried). Goes 0 4 t u c.args.log.now.items c.push.new.self.items) (sym c.follow.ensures.trial)
    (added_step c.room_suffices.ensures.adding c.answers_apply.ensures t c.apply.new.self c.args.gate c.args.node c.args.control fault c.in-Some.tree c.args.log.now.items c.push.new.self.items formed c.requires.control c.in-Ok.ensures.answer c.in-Ok.ensures.net c.in-Ok.ensures.room pin accepted c.in_ok-push-in-Some.ensures.items)
