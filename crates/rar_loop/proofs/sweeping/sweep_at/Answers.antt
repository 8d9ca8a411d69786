use Rattle.std.proofs.Common.{Option, List, ◌<◌, refl, sym, subst}
use Rattle.rm_base.specs.declared.numbers.Fault.{Fault}
use Rattle.gate_net.specs.Net.{Net, IsWellFormed, wire_count}
use Rattle.gate_graph.specs.Circuit.{Circuit, net_of}
use Rattle.refutation.specs.declared.items.Item.{Item}
use Rattle.rar_loop.specs.Inner.Swept.{IsLookedAtGate, IsOpenAtGate, IsRefutedAt}
use Rattle.wire_edit.proofs.Public.{tidy_reads_none}
use Rattle.wire_edit.specs.Tried.{Tried}
use Rattle.rar_loop.specs.Inner.Spaces.{TouchesOn}
use Rattle.recursive_learning.specs.Serving.{IsServing}
use Rattle.rar_loop.specs.Inner.Kept.{AreFor}
use Rattle.rar_loop.proofs.Sizing.{accepted_sources}
use Rattle.rar_loop.proofs.Looking.{refuted_free}
use Rattle.rar_loop.proofs.sweeping.sweep_at.Goals as goal

pub fix_and_tidy-requires-clause-pin : goal.fix_and_tidy-requires-clause-pin
fix_and_tidy-requires-clause-pin c =
    let net : Net = net_of c.args.space.now.trial.graph in
    let formed : IsWellFormed net = subst (λ (v : Circuit). IsWellFormed (net_of v)) c.graph-graph.ensures c.well_formed-2.ensures.net in
    let here : IsLookedAtGate net c.args.gate.0 c.args.depth c.in_ok-found.found =
    subst (λ (v : Circuit). IsLookedAtGate (net_of v) c.args.gate.0 c.args.depth c.in_ok-found.found) c.graph-graph.ensures c.in_ok-found.ensures.looked in
    let found : IsRefutedAt net c.args.gate.0 c.in-Some.fault c.in-Some.tree = subst (λ (o : Option (Fault × List Item)). IsLookedAtGate net c.args.gate.0 c.args.depth o) c.in-Some.is here in
    refuted_free net c.args.gate.0 c.in-Some.fault c.in-Some.tree (tidy_reads_none net formed c.requires.tidy) found

pub returns-in-None-clause-looked : goal.returns-in-None-clause-looked
returns-in-None-clause-looked c =
    let net : Net = net_of c.args.space.now.trial.graph in
    let here : IsLookedAtGate net c.args.gate.0 c.args.depth c.in_ok-found.found =
    subst (λ (v : Circuit). IsLookedAtGate (net_of v) c.args.gate.0 c.args.depth c.in_ok-found.found) c.graph-graph.ensures c.in_ok-found.ensures.looked in
    let open_pins : IsOpenAtGate net c.args.gate.0 c.args.depth = subst (λ (o : Option (Fault × List Item)). IsLookedAtGate net c.args.gate.0 c.args.depth o) c.in-None.is here in
    (refl, open_pins)

pub returns-in_ok-follow-in-Some-clause-looked : goal.returns-in_ok-follow-in-Some-clause-looked
returns-in_ok-follow-in-Some-clause-looked c =
    let net : Net = net_of c.args.space.now.trial.graph in
    let formed : IsWellFormed net = subst (λ (v : Circuit). IsWellFormed (net_of v)) c.graph-graph.ensures c.well_formed-2.ensures.net in
    subst (λ (u : Tried). wire_count (net_of u.graph) < wire_count net) (sym c.follow.ensures.trial) (c.in_ok-fix_and_tidy-in-Some.ensures.fewer (tidy_reads_none net formed c.requires.tidy))

pub follow-requires-clause-follows : goal.follow-requires-clause-follows
follow-requires-clause-follows c =
    let net : Net = net_of c.args.space.now.trial.graph in
    let formed : IsWellFormed net = subst (λ (v : Circuit). IsWellFormed (net_of v)) c.graph-graph.ensures c.well_formed-2.ensures.net in
    let logs = c.in_ok-fix_and_tidy-in-Some.ensures.goes.logs in
    record {
      before = net;
      vectors = subst (λ (v : Circuit). AreFor c.refuted_at.new.vectors (net_of v)) c.graph-graph.ensures c.in_ok-found.ensures.vectors;
      noted = c.in_ok-fix_and_tidy-in-Some.ensures.noted net (c.new-changed.ensures net);
      sources = accepted_sources c.accepted_steps_keep.ensures net (net_of c.fix_and_tidy.new.trial.graph) logs.more formed logs.accepted;
      served = net;
      refuter = subst (λ (v : Circuit). IsServing (net_of v) c.refuted_at.new.refuter) c.graph-graph.ensures c.in_ok-found.ensures.serves;
      near = λ x none. refl;
    }

pub returns-in_ok-follow-in-Some-clause-touched : goal.returns-in_ok-follow-in-Some-clause-touched
returns-in_ok-follow-in-Some-clause-touched c =
    let net : Net = net_of c.args.space.now.trial.graph in
    let formed : IsWellFormed net = subst (λ (v : Circuit). IsWellFormed (net_of v)) c.graph-graph.ensures c.well_formed-2.ensures.net in
    let logs = c.in_ok-fix_and_tidy-in-Some.ensures.goes.logs in
    subst (λ (u : Tried). TouchesOn net (net_of u.graph) c.args.space.now.touched.items c.follow.new.self.touched.items) (sym c.follow.ensures.trial)
    (c.in_ok-follow-in-Some.ensures.touched net (c.in_ok-fix_and_tidy-in-Some.ensures.noted net (c.new-changed.ensures net))
    (accepted_sources c.accepted_steps_keep.ensures net (net_of c.fix_and_tidy.new.trial.graph) logs.more formed logs.accepted))
