use Rattle.std.proofs.Common.{◌≡◌, ℕ, sym, [], ap, ◌∙◌, subst, arith}
use Rattle.gate_net.specs.Net.{Net, IsWellFormed}
use Rattle.gate_net.specs.Edits.{DiffersAt}
use Rattle.wire_edit.specs.Changes.{with_new_not}
use Rattle.wire_edit.specs.Inner.Changes.{least_free as first_free}
use Rattle.wire_edit.proofs.Public.{new_differs, room_steps}
use Rattle.candidate_wires.specs.Gains.{least_free}
use Rattle.rar_loop.proofs.NewNots.{least_same}
use Rattle.gate_graph.specs.Circuit.{Circuit, net_of}
use Rattle.rar_loop.proofs.Adding.{node_of}
use Rattle.rar_loop.proofs.Readying.{ready_after_not}
use Rattle.recorded_removals.proofs.Public.{tallies_one}
use Rattle.wire_edit.specs.declared.steps.Step.TheVariants.{NewNot}
use Rattle.journal_text.specs.declared.record.Record.TheVariants as record_of
use Rattle.rar_loop.proofs.trying.wire_of.Goals as goal

pub returns-clause-ready : goal.returns-clause-ready
returns-clause-ready c =
    let formed : IsWellFormed (net_of c.args.trial.now.graph) = subst (λ (v : Circuit). IsWellFormed (net_of v)) c.graph.ensures c.well_formed-2.ensures.net in
    ready_after_not c.room_suffices.ensures.adding c.args.trial.now c.apply.new.self c.args.candidate.now.node formed (node_of (net_of c.args.trial.now.graph) c.args.candidate.now c.requires.candidate) c.requires.ready c.in-Ok.ensures.net c.in-Ok.ensures.room

pub returns-clause-tallies : goal.returns-clause-tallies
returns-clause-tallies c =
    tallies_one c.args.trial.now c.apply.new.self (record_of.Step (NewNot c.args.candidate.now.node) []) c.args.log.now.items c.push_local.new.log.items c.in_ok-push_local.ensures (omega (arith, c.requires.ready.steps)) (ap (λ r. r.steps) c.in-Ok.ensures.room ∙ room_steps c.args.trial.now.room (NewNot c.args.candidate.now.node)) c.apply.ensures.held

pub returns-clause-noted : goal.returns-clause-noted
returns-clause-noted c =
    let net : Net = net_of c.args.trial.now.graph in
    let made : c.least_free-made.result.0 ≡ first_free net.nodes = c.least_free-made.ensures ∙ ap (λ (v : Circuit). least_free (net_of v)) c.graph-2.ensures ∙ least_same net in
    let differs : DiffersAt net (net_of c.apply.new.self.graph) c.least_free-made.result.0 =
    subst (λ (n : Net). DiffersAt net n c.least_free-made.result.0) (sym c.in-Ok.ensures.net) (subst (λ (x : ℕ). DiffersAt net (with_new_not net c.args.candidate.now.node.0) x) (sym made) (new_differs net c.args.candidate.now.node.0)) in
    c.in_ok-note_made.ensures net (net_of c.apply.new.self.graph) differs
