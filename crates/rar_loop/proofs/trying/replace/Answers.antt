use Rattle.std.proofs.Common.{◌≡◌, ◌+◌, ◌≤◌, Bool, true, ◌∙◌, ap, subst, arith}
use Rattle.gate_net.specs.Net.{Net, IsWellFormed, source_count, wire_count}
use Rattle.gate_graph.specs.Circuit.{Circuit, net_of}
use Rattle.candidate_wires.specs.Gains.{with_candidate}
use Rattle.wire_edit.specs.Tried.{Tried}
use Rattle.recursive_learning.specs.Serving.{IsServing}
use Rattle.rar_loop.specs.Inner.Trying.{HasAdded}
use Rattle.rar_loop.proofs.Replacing.{added_sources, target_pin, target_free, replaced_whole}
use Rattle.wire_edit.specs.Work.{work}
use Rattle.recorded_removals.specs.Going.{Goes, Tallies}
use Rattle.rar_loop.specs.Inner.Spaces.{TouchesOn}
use Rattle.rar_loop.specs.Inner.Swept.{HasSwept}
use Rattle.recorded_removals.proofs.Public.{left_then, tallies_then}
use Rattle.rar_loop.proofs.trying.replace.Goals as goal

pub invariant_of-question : goal.invariant_of-question
invariant_of-question c =
    let net : Net = net_of c.args.space.now.trial.graph in
    let formed : IsWellFormed net = subst (λ (v : Circuit). IsWellFormed (net_of v)) c.graph.ensures c.well_formed-2.ensures.net in
    let after : net_of c.graph-2.result.now ≡ with_candidate net c.args.pair.now.candidate = ap (λ (v : Circuit). net_of v) c.graph-2.ensures ∙ c.in_ok-has_added.ensures.net in
    record { pin = target_pin net (net_of c.graph-2.result.now) c.args.pair.now formed c.requires.pair after }

pub fix_and_tidy-requires-clause-pin : goal.fix_and_tidy-requires-clause-pin
fix_and_tidy-requires-clause-pin c =
    let net : Net = net_of c.args.space.now.trial.graph in
    let formed : IsWellFormed net = subst (λ (v : Circuit). IsWellFormed (net_of v)) c.graph.ensures c.well_formed-2.ensures.net in
    target_free net (net_of c.add_wire.new.trial.graph) c.args.pair.now formed c.requires.tidy c.requires.pair c.in_ok-has_added.ensures.net

pub returns-clause-replaced : goal.returns-clause-replaced
returns-clause-replaced c =
    let second : Goes c.fix_and_tidy.new.trial c.sweep.new.space.trial c.fix_and_tidy.new.log.items c.sweep.new.log.items = subst (λ (t : Tried). Goes t c.sweep.new.space.trial c.fix_and_tidy.new.log.items c.sweep.new.log.items) c.follow.ensures.trial c.in_ok-sweep-in-Some.ensures.goes in
    let swept : HasSwept (net_of c.fix_and_tidy.new.trial.graph) (net_of c.sweep.new.space.trial.graph) c.args.depth = subst (λ (t : Tried). HasSwept (net_of t.graph) (net_of c.sweep.new.space.trial.graph) c.args.depth) c.follow.ensures.trial c.in_ok-sweep-in-Some.ensures.swept in
    let net : Net = net_of c.args.space.now.trial.graph in
    let yes_added : c.in_ok-has_added.has_added ≡ true = c.if-not-has_added.false in
    let added : HasAdded net c.args.pair.now.candidate c.args.depth c.add_wire.new.log.items true = subst (λ (b : Bool). HasAdded net c.args.pair.now.candidate c.args.depth c.add_wire.new.log.items b) yes_added c.in_ok-has_added.ensures.added in
    let no_more : wire_count (net_of c.fix_and_tidy.new.trial.graph) ≤ wire_count net =
    let count : c.wire_count.result ≡ wire_count (net_of c.fix_and_tidy.new.trial.graph) = c.wire_count.ensures ∙ ap (λ (v : Circuit). wire_count (net_of v)) c.graph-in-Some.ensures in
    omega (arith, c.if-wire_count-wires.false, count, c.requires.wires) in
    replaced_whole net (net_of c.add_wire.new.trial.graph) (net_of c.fix_and_tidy.new.trial.graph) (net_of c.sweep.new.space.trial.graph) c.args.pair.now c.args.depth c.in-Some.tree c.add_wire.new.log.items c.fix_and_tidy.new.log.items c.sweep.new.log.items
    added c.in_ok-has_added.ensures.net c.in_ok-fix_and_tidy-in-Some.ensures.fixed c.in_ok-fix_and_tidy-in-Some.ensures.goes.logs c.in_ok-fix_and_tidy-in-Some.ensures.order second.logs swept c.in_ok-sweep-in-Some.ensures.tidy no_more
    c.in_ok-fix_and_tidy-in-Some.ensures.goes.no_larger second.no_larger

pub returns-clause-tallies : goal.returns-clause-tallies
returns-clause-tallies c = λ replaced.
    let second : Goes c.fix_and_tidy.new.trial c.sweep.new.space.trial c.fix_and_tidy.new.log.items c.sweep.new.log.items = subst (λ (t : Tried). Goes t c.sweep.new.space.trial c.fix_and_tidy.new.log.items c.sweep.new.log.items) c.follow.ensures.trial c.in_ok-sweep-in-Some.ensures.goes in
    let yes_added : c.in_ok-has_added.has_added ≡ true = c.if-not-has_added.false in
    let first : Tallies c.args.space.now.trial c.add_wire.new.trial c.args.log.now.items c.add_wire.new.log.items = c.in_ok-has_added.ensures.tallies yes_added in
    tallies_then c.args.space.now.trial c.add_wire.new.trial c.sweep.new.space.trial c.args.log.now.items c.add_wire.new.log.items c.sweep.new.log.items first
    (tallies_then c.add_wire.new.trial c.fix_and_tidy.new.trial c.sweep.new.space.trial c.add_wire.new.log.items c.fix_and_tidy.new.log.items c.sweep.new.log.items c.in_ok-fix_and_tidy-in-Some.ensures.goes.tallies second.tallies)

pub follow-requires-clause-follows : goal.follow-requires-clause-follows
follow-requires-clause-follows c =
    let net : Net = net_of c.args.space.now.trial.graph in
    let formed : IsWellFormed net = subst (λ (v : Circuit). IsWellFormed (net_of v)) c.graph.ensures c.well_formed-2.ensures.net in
    let yes_added : c.in_ok-has_added.has_added ≡ true = c.if-not-has_added.false in
    let added : HasAdded net c.args.pair.now.candidate c.args.depth c.add_wire.new.log.items true = subst (λ (b : Bool). HasAdded net c.args.pair.now.candidate c.args.depth c.add_wire.new.log.items b) yes_added c.in_ok-has_added.ensures.added in
    record {
      before = net;
      vectors = c.requires.tools.vectors;
      noted = c.in_ok-fix_and_tidy-in-Some.ensures.noted net (c.in_ok-has_added.ensures.noted net (c.new-changed.ensures net));
      sources = added_sources c.accepted_steps_keep.ensures net (net_of c.add_wire.new.trial.graph) (net_of c.fix_and_tidy.new.trial.graph) c.args.pair.now.candidate c.args.depth c.add_wire.new.log.items c.fix_and_tidy.new.log.items formed added c.in_ok-has_added.ensures.net c.in_ok-fix_and_tidy-in-Some.ensures.goes.logs;
      served = with_candidate net c.args.pair.now.candidate;
      refuter = subst (λ (n : Net). IsServing n c.find_tree.new.refuter) (ap (λ (v : Circuit). net_of v) c.graph-2.ensures ∙ c.in_ok-has_added.ensures.net) c.in_ok-find_tree.ensures.serves;
      near = c.requires.changes;
    }

pub returns-clause-touched : goal.returns-clause-touched
returns-clause-touched c = λ replaced before d.
    let net : Net = net_of c.args.space.now.trial.graph in
    let formed : IsWellFormed net = subst (λ (v : Circuit). IsWellFormed (net_of v)) c.graph.ensures c.well_formed-2.ensures.net in
    let yes_added : c.in_ok-has_added.has_added ≡ true = c.if-not-has_added.false in
    let added : HasAdded net c.args.pair.now.candidate c.args.depth c.add_wire.new.log.items true = subst (λ (b : Bool). HasAdded net c.args.pair.now.candidate c.args.depth c.add_wire.new.log.items b) yes_added c.in_ok-has_added.ensures.added in
    let sources : source_count (net_of c.fix_and_tidy.new.trial.graph) ≡ source_count net = added_sources c.accepted_steps_keep.ensures net (net_of c.add_wire.new.trial.graph) (net_of c.fix_and_tidy.new.trial.graph) c.args.pair.now.candidate c.args.depth c.add_wire.new.log.items c.fix_and_tidy.new.log.items formed added c.in_ok-has_added.ensures.net c.in_ok-fix_and_tidy-in-Some.ensures.goes.logs in
    let swept : TouchesOn (net_of c.fix_and_tidy.new.trial.graph) (net_of c.sweep.new.space.trial.graph) c.follow.new.self.touched.items c.sweep.new.space.touched.items = subst (λ (t : Tried). TouchesOn (net_of t.graph) (net_of c.sweep.new.space.trial.graph) c.follow.new.self.touched.items c.sweep.new.space.touched.items) c.follow.ensures.trial c.in_ok-sweep-in-Some.ensures.touched in
    swept before (c.in_ok-follow-in-Some.ensures.touched net (c.in_ok-fix_and_tidy-in-Some.ensures.noted net (c.in_ok-has_added.ensures.noted net (c.new-changed.ensures net))) sources before d)

pub returns-clause-left : goal.returns-clause-left
returns-clause-left c = λ replaced.
    let second : Goes c.fix_and_tidy.new.trial c.sweep.new.space.trial c.fix_and_tidy.new.log.items c.sweep.new.log.items = subst (λ (t : Tried). Goes t c.sweep.new.space.trial c.fix_and_tidy.new.log.items c.sweep.new.log.items) c.follow.ensures.trial c.in_ok-sweep-in-Some.ensures.goes in
    left_then c.args.space.now.trial c.add_wire.new.trial c.sweep.new.space.trial 2 1 0 0 c.in_ok-has_added.ensures.left
    (left_then c.add_wire.new.trial c.fix_and_tidy.new.trial c.sweep.new.space.trial 0 0 0 0 c.in_ok-fix_and_tidy-in-Some.ensures.goes.left second.left)

pub sweep-requires-clause-room : goal.sweep-requires-clause-room
sweep-requires-clause-room c =
    let zero : work (net_of c.fix_and_tidy.new.trial.graph) + 0 ≤ c.fix_and_tidy.new.trial.room.steps = c.in_ok-fix_and_tidy-in-Some.ensures.goes.room 0 (omega (arith, c.in_ok-has_added.ensures.ready.steps)) in
    omega (arith, zero, ap (λ (t : Tried). work (net_of t.graph)) c.follow.ensures.trial, ap (λ (t : Tried). t.room.steps) c.follow.ensures.trial)
