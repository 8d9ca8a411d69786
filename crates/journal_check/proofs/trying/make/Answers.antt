use Rattle.std.proofs.Common.{◌≡◌, ◌∙◌, ◌-◌, ap, sym, subst, Some, None, IfSome, Ok, Err}
use Rattle.gate_net.specs.Net.{Net, IsWellFormed}
use Rattle.gate_net.specs.Values.{HasPin}
use Rattle.gate_graph.specs.Circuit.{Circuit, net_of}
use Rattle.wire_edit.specs.Steps.{stepped}
use Rattle.wire_edit.specs.Tried.{Tried}
use Rattle.journal_check.specs.Inner.Replaying.{AddSays, FixSays, IsAddedPin}
use Rattle.journal_check.proofs.MadeLaws.{accepted, err_after, err_before, err_edit, pin_there}
use Rattle.journal_check.proofs.TrialLaws.{ready_answer, ready_edits, rolled_net, settled_ready}
use Rattle.journal_check.proofs.trying.make.Goals as goal

pub returns-in-Err-clause-makes : goal.returns-in-Err-clause-makes
returns-in-Err-clause-makes c =
    let net : Net = net_of c.args.trial.graph in
    let answer = ready_answer c.answers_agree.ensures.rooms c.args.trial c.args.left c.args.step (Some c.in-Err.refusal) c.requires.ready c.requires.room c.in-Err.ensures.answer in
    (ap (λ (t : Tried). net_of t.graph) c.in-Err.ensures.refused, err_edit net c.args.step c.args.tree.now c.in-Err.refusal answer)

pub returns-in-Err-before-clause-makes : goal.returns-in-Err-before-clause-makes
returns-in-Err-before-clause-makes c =
    let net : Net = net_of c.args.trial.graph in
    let answer = ready_answer c.answers_agree.ensures.rooms c.args.trial c.args.left c.args.step None c.requires.ready c.requires.room c.in_default.ensures.answer in (
      rolled_net c.args.trial c.apply.new.self c.rollback-graph.result c.args.left c.requires.ready c.in_default.ensures.start c.rollback-graph.ensures.graph,
      err_before net c.args.step c.args.tree.now c.in-Err-before.why c.answers_apply.ensures answer (subst (λ (g : Circuit). FixSays (net_of g) c.args.step c.args.tree.now (Err c.in-Err-before.why)) c.graph-2.ensures c.in-Err-before.ensures),
    )

pub add_says-requires : goal.add_says-requires
add_says-requires c =
    let net : Net = net_of c.args.trial.graph in
    let added : IsAddedPin (net_of c.args.trial.graph) c.args.step c.added_pin-added.result = subst (λ (g : Circuit). IsAddedPin (net_of g) c.args.step c.added_pin-added.result) c.graph-3.ensures c.added_pin-added.ensures in
    let after : net_of c.graph-4.result.now ≡ stepped net c.args.step = ap net_of c.graph-4.ensures ∙ c.in_default.ensures.net in
    subst (λ (n : Net). IfSome c.added_pin-added.result (λ f. HasPin n f)) (sym after) (pin_there c.steps_grow.ensures.last net c.args.step c.added_pin-added.result added)

pub returns-in-Err-add_says-clause-makes : goal.returns-in-Err-add_says-clause-makes
returns-in-Err-add_says-clause-makes c =
    let net : Net = net_of c.args.trial.graph in
    let answer = ready_answer c.answers_agree.ensures.rooms c.args.trial c.args.left c.args.step None c.requires.ready c.requires.room c.in_default.ensures.answer in
    let added : IsAddedPin (net_of c.args.trial.graph) c.args.step c.added_pin-added.result = subst (λ (g : Circuit). IsAddedPin (net_of g) c.args.step c.added_pin-added.result) c.graph-3.ensures c.added_pin-added.ensures in
    let after : net_of c.graph-4.result.now ≡ stepped net c.args.step = ap net_of c.graph-4.ensures ∙ c.in_default.ensures.net in
    let says = subst (λ (n : Net). AddSays n c.added_pin-added.result c.args.tree.now (Err c.in-Err-add_says.why)) after c.in-Err-add_says.ensures in (
      rolled_net c.args.trial c.apply.new.self c.rollback-graph-in-Err-add_says.result c.args.left c.requires.ready c.in_default.ensures.start c.rollback-graph-in-Err-add_says.ensures.graph,
      err_after net c.args.step c.args.tree.now c.in-Err-add_says.why c.added_pin-added.result answer added says,
    )

abbrev accepts : goal.returns-clause-makes
accepts c =
    let net : Net = net_of c.args.trial.graph in
    let answer = ready_answer c.answers_agree.ensures.rooms c.args.trial c.args.left c.args.step None c.requires.ready c.requires.room c.in_default.ensures.answer in
    let added : IsAddedPin (net_of c.args.trial.graph) c.args.step c.added_pin-added.result = subst (λ (g : Circuit). IsAddedPin (net_of g) c.args.step c.added_pin-added.result) c.graph-3.ensures c.added_pin-added.ensures in
    let after : net_of c.graph-4.result.now ≡ stepped net c.args.step = ap net_of c.graph-4.ensures ∙ c.in_default.ensures.net in
    let says = subst (λ (n : Net). AddSays n c.added_pin-added.result c.args.tree.now (Ok tt)) after c.in_default-add_says.ensures in (
      accepted net c.args.step c.args.tree.now c.added_pin-added.result c.answers_apply.ensures answer (subst (λ (g : Circuit). FixSays (net_of g) c.args.step c.args.tree.now (Ok tt)) c.graph-2.ensures c.in_default-before.ensures) added says c.requires.tree,
      c.keep.ensures.net ∙ c.in_default.ensures.net,
    )

pub returns-clause-makes : goal.returns-clause-makes
returns-clause-makes c = accepts c

pub returns-clause-editing : goal.returns-clause-editing
returns-clause-editing c =
    let a = accepts c in
    ready_edits c.keep.new.self (c.args.left - 1)
    (settled_ready c.args.trial c.apply.new.self c.keep.new.self c.args.left c.args.step c.args.tree.now (subst IsWellFormed (ap net_of c.graph.ensures) c.well_formed-2.ensures.net) c.requires.ready a.0 c.in_default.ensures.held c.in_default.ensures.room c.in_default.ensures.first a.1 c.keep.ensures.entries c.keep.ensures.steps c.keep.ensures.room c.keep.ensures.first c.keep.ensures.held)
