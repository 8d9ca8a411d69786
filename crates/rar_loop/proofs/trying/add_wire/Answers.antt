use Rattle.std.proofs.Common.{◌≡◌, ◌<◌, not, ◌∙◌, ap, subst, arith}
use Rattle.gate_net.specs.Net.{Net, IsWellFormed, wire_count}
use Rattle.wire_edit.proofs.Public.{room_steps}
use Rattle.wire_edit.specs.Refusals.{ceiling}
use Rattle.gate_net.specs.Edits.{last_pin}
use Rattle.gate_graph.specs.Circuit.{Circuit, net_of}
use Rattle.wire_edit.specs.declared.steps.Step.TheVariants.{Add}
use Rattle.wire_edit.specs.Steps.{Applies}
use Rattle.candidate_wires.specs.Gains.{net_for, with_candidate}
use Rattle.changed_nodes.specs.Changing.{HasNoted, NotesOn}
use Rattle.rar_loop.proofs.Readying.{ready_after_add, add_refused, add_here, net_added, fault_is, fault_pin, new_pin_open, has_added}
use Rattle.recorded_removals.proofs.Public.{tallies_one, tallies_then}
use Rattle.journal_text.specs.declared.record.Record.TheVariants as record_of
use Rattle.rar_loop.proofs.trying.add_wire.Goals as goal

pub unreachable-requires : goal.unreachable-requires
unreachable-requires c =
    let net : Net = net_of c.args.trial.now.graph in
    let formed : IsWellFormed net = subst (λ (v : Circuit). IsWellFormed (net_of v)) c.graph.ensures c.well_formed-2.ensures.net in
    let applies : Applies (net_of c.wire_of.new.trial.graph) (Add c.args.candidate.now.gate c.in_ok-node.node) = add_here net (net_of c.wire_of.new.trial.graph) c.args.candidate.now c.in_ok-node.node formed c.requires.candidate c.in_ok-node.ensures.net c.in_ok-node.ensures.node in
    add_refused c.wire_of.new.trial c.args.candidate.now.gate c.in_ok-node.node c.in-Err._refusal applies c.in_ok-node.ensures.ready c.in_ok-node.ensures.pins c.in-Err.ensures.answer

pub invariant_of-question : goal.invariant_of-question
invariant_of-question c =
    let net : Net = net_of c.args.trial.now.graph in
    let wired : net_of c.graph-wired.result.now ≡ net_for net c.args.candidate.now = ap (λ (v : Circuit). net_of v) c.graph-wired.ensures ∙ c.in_ok-node.ensures.net in
    let is : c.new_pin-fault.result ≡ last_pin net c.args.candidate.now.gate.0 (not c.requires.candidate.1.control) = fault_is net (net_of c.graph-wired.result.now) c.args.candidate.now c.requires.candidate c.new_pin-fault.result wired c.new_pin-fault.ensures in
    let after : net_of c.graph-4.result.now ≡ with_candidate net c.args.candidate.now = ap (λ (v : Circuit). net_of v) c.graph-4.ensures ∙ net_added net (net_of c.wire_of.new.trial.graph) (net_of c.apply.new.self.graph) c.args.candidate.now c.in_ok-node.node c.in_ok-node.ensures.net c.in_ok-node.ensures.node c.in-Ok.ensures.net in
    record { pin = fault_pin net (net_of c.graph-4.result.now) c.args.candidate.now c.requires.candidate c.new_pin-fault.result after is }

pub returns-in-None-clause-added : goal.returns-in-None-clause-added
returns-in-None-clause-added c =
    let net : Net = net_of c.args.trial.now.graph in
    let wired : net_of c.graph-wired.result.now ≡ net_for net c.args.candidate.now = ap (λ (v : Circuit). net_of v) c.graph-wired.ensures ∙ c.in_ok-node.ensures.net in
    let is : c.new_pin-fault.result ≡ last_pin net c.args.candidate.now.gate.0 (not c.requires.candidate.1.control) = fault_is net (net_of c.graph-wired.result.now) c.args.candidate.now c.requires.candidate c.new_pin-fault.result wired c.new_pin-fault.ensures in
    let after : net_of c.graph-4.result.now ≡ with_candidate net c.args.candidate.now = ap (λ (v : Circuit). net_of v) c.graph-4.ensures ∙ net_added net (net_of c.wire_of.new.trial.graph) (net_of c.apply.new.self.graph) c.args.candidate.now c.in_ok-node.node c.in_ok-node.ensures.net c.in_ok-node.ensures.node c.in-Ok.ensures.net in
    new_pin_open net (net_of c.graph-4.result.now) c.args.candidate.now c.requires.candidate c.new_pin-fault.result c.args.depth c.in_ok-find_tree.field-0 after is c.in-None.is c.in_ok-find_tree.ensures.looked

pub returns-in-None-clause-ready : goal.returns-in-None-clause-ready
returns-in-None-clause-ready c =
    let net : Net = net_of c.args.trial.now.graph in
    let formed : IsWellFormed net = subst (λ (v : Circuit). IsWellFormed (net_of v)) c.graph.ensures c.well_formed-2.ensures.net in
    let applies : Applies (net_of c.wire_of.new.trial.graph) (Add c.args.candidate.now.gate c.in_ok-node.node) = add_here net (net_of c.wire_of.new.trial.graph) c.args.candidate.now c.in_ok-node.node formed c.requires.candidate c.in_ok-node.ensures.net c.in_ok-node.ensures.node in
    ready_after_add c.room_suffices.ensures.adding c.wire_of.new.trial c.apply.new.self c.args.candidate.now.gate c.in_ok-node.node (subst (λ (v : Circuit). IsWellFormed (net_of v)) c.graph-wired.ensures c.well_formed-3.ensures.net) applies c.in_ok-node.ensures.ready c.in-Ok.ensures.net c.in-Ok.ensures.room

pub returns-in_ok-push-in-Some-clause-added : goal.returns-in_ok-push-in-Some-clause-added
returns-in_ok-push-in-Some-clause-added c =
    let net : Net = net_of c.args.trial.now.graph in
    let formed : IsWellFormed net = subst (λ (v : Circuit). IsWellFormed (net_of v)) c.graph.ensures c.well_formed-2.ensures.net in
    let wired : net_of c.graph-wired.result.now ≡ net_for net c.args.candidate.now = ap (λ (v : Circuit). net_of v) c.graph-wired.ensures ∙ c.in_ok-node.ensures.net in
    let is : c.new_pin-fault.result ≡ last_pin net c.args.candidate.now.gate.0 (not c.requires.candidate.1.control) = fault_is net (net_of c.graph-wired.result.now) c.args.candidate.now c.requires.candidate c.new_pin-fault.result wired c.new_pin-fault.ensures in
    let after : net_of c.graph-4.result.now ≡ with_candidate net c.args.candidate.now = ap (λ (v : Circuit). net_of v) c.graph-4.ensures ∙ net_added net (net_of c.wire_of.new.trial.graph) (net_of c.apply.new.self.graph) c.args.candidate.now c.in_ok-node.node c.in_ok-node.ensures.net c.in_ok-node.ensures.node c.in-Ok.ensures.net in
    let few : wire_count (net_for net c.args.candidate.now) < ceiling = omega (arith, c.in_ok-node.ensures.ready.wires, ap wire_count c.in_ok-node.ensures.net) in
    has_added net (net_of c.graph-4.result.now) c.args.candidate.now c.requires.candidate c.in_ok-node.node c.new_pin-fault.result c.args.depth c.in_ok-find_tree.field-0 c.in-Some.tree c.wire_of.new.log.items c.push.new.self.items formed (omega (arith, c.requires.ready.nodes)) few after is c.in-Some.is c.in_ok-find_tree.ensures.looked c.in_ok-node.ensures.node c.in_ok-node.ensures.log c.in_ok-push-in-Some.ensures.items

pub returns-in_ok-push-in-Some-clause-ready : goal.returns-in_ok-push-in-Some-clause-ready
returns-in_ok-push-in-Some-clause-ready c =
    let net : Net = net_of c.args.trial.now.graph in
    let formed : IsWellFormed net = subst (λ (v : Circuit). IsWellFormed (net_of v)) c.graph.ensures c.well_formed-2.ensures.net in
    let applies : Applies (net_of c.wire_of.new.trial.graph) (Add c.args.candidate.now.gate c.in_ok-node.node) = add_here net (net_of c.wire_of.new.trial.graph) c.args.candidate.now c.in_ok-node.node formed c.requires.candidate c.in_ok-node.ensures.net c.in_ok-node.ensures.node in
    ready_after_add c.room_suffices.ensures.adding c.wire_of.new.trial c.apply.new.self c.args.candidate.now.gate c.in_ok-node.node (subst (λ (v : Circuit). IsWellFormed (net_of v)) c.graph-wired.ensures c.well_formed-3.ensures.net) applies c.in_ok-node.ensures.ready c.in-Ok.ensures.net c.in-Ok.ensures.room

pub returns-in_ok-push-in-Some-clause-tallies : goal.returns-in_ok-push-in-Some-clause-tallies
returns-in_ok-push-in-Some-clause-tallies c = λ added.
    tallies_then c.args.trial.now c.wire_of.new.trial c.apply.new.self c.args.log.now.items c.wire_of.new.log.items c.push.new.self.items c.in_ok-node.ensures.tallies
    (tallies_one c.wire_of.new.trial c.apply.new.self (record_of.Step (Add c.args.candidate.now.gate c.in_ok-node.node) c.in-Some.tree) c.wire_of.new.log.items c.push.new.self.items c.in_ok-push-in-Some.ensures.items (omega (arith, c.in_ok-node.ensures.ready.steps)) (ap (λ r. r.steps) c.in-Ok.ensures.room ∙ room_steps c.wire_of.new.trial.room (Add c.args.candidate.now.gate c.in_ok-node.node)) c.apply.ensures.held)

pub returns-in-None-clause-noted : goal.returns-in-None-clause-noted
returns-in-None-clause-noted c = λ before noted.
    let net : Net = net_of c.args.trial.now.graph in
    let wired : Net = net_of c.wire_of.new.trial.graph in
    let formed : IsWellFormed net = subst (λ (v : Circuit). IsWellFormed (net_of v)) c.graph.ensures c.well_formed-2.ensures.net in
    let formed' : IsWellFormed wired = subst (λ (v : Circuit). IsWellFormed (net_of v)) c.graph-wired.ensures c.well_formed-3.ensures.net in
    let applies : Applies wired (Add c.args.candidate.now.gate c.in_ok-node.node) = add_here net wired c.args.candidate.now c.in_ok-node.node formed c.requires.candidate c.in_ok-node.ensures.net c.in_ok-node.ensures.node in
    let add : NotesOn wired (net_of c.apply.new.self.graph) c.wire_of.new.changed c.note.new.self =
    subst (λ (v : Circuit). HasNoted (Add c.args.candidate.now.gate c.in_ok-node.node) v c.wire_of.new.changed c.note.new.self) c.graph-2.ensures c.in_ok-note.ensures c.wire_of.new.trial.graph formed' applies (λ none. none) c.in-Ok.ensures.readers in
    add before (c.in_ok-node.ensures.noted before noted)

pub returns-in_ok-push-in-Some-clause-noted : goal.returns-in_ok-push-in-Some-clause-noted
returns-in_ok-push-in-Some-clause-noted c = λ before noted.
    let net : Net = net_of c.args.trial.now.graph in
    let wired : Net = net_of c.wire_of.new.trial.graph in
    let formed : IsWellFormed net = subst (λ (v : Circuit). IsWellFormed (net_of v)) c.graph.ensures c.well_formed-2.ensures.net in
    let formed' : IsWellFormed wired = subst (λ (v : Circuit). IsWellFormed (net_of v)) c.graph-wired.ensures c.well_formed-3.ensures.net in
    let applies : Applies wired (Add c.args.candidate.now.gate c.in_ok-node.node) = add_here net wired c.args.candidate.now c.in_ok-node.node formed c.requires.candidate c.in_ok-node.ensures.net c.in_ok-node.ensures.node in
    let add : NotesOn wired (net_of c.apply.new.self.graph) c.wire_of.new.changed c.note.new.self =
    subst (λ (v : Circuit). HasNoted (Add c.args.candidate.now.gate c.in_ok-node.node) v c.wire_of.new.changed c.note.new.self) c.graph-2.ensures c.in_ok-note.ensures c.wire_of.new.trial.graph formed' applies (λ none. none) c.in-Ok.ensures.readers in
    add before (c.in_ok-node.ensures.noted before noted)
