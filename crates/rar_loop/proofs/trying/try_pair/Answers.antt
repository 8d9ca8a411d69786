use Rattle.std.proofs.Common.{◌≡◌, ◌<◌, ◌≤◌, Bool, true, false, List, [], length, refl, sym, ◌∙◌, ap, subst, arith}
use Rattle.std.specs.Prelude.{if◌then◌else◌}
use Rattle.gate_net.specs.Edits.{IsSameBut}
use Rattle.gate_net.specs.Net.{Net, IsWellFormed, wire_count}
use Rattle.gate_graph.specs.Holds.{pins_held}
use Rattle.journal_text.specs.declared.record.Record.{Record}
use Rattle.recorded_removals.specs.Going.{Tallies}
use Rattle.rar_loop.specs.Sizes.{most_steps}
use Rattle.rar_loop.proofs.Sizing.{HasSize, held_back}
use Rattle.gate_graph.specs.Circuit.{Circuit, net_of}
use Rattle.wire_edit.specs.Tried.{Tried}
use Rattle.fault_sim.specs.Following.{DiffersAmong}
use Rattle.candidate_wires.specs.Gains.{with_candidate}
use Rattle.recursive_learning.specs.Serving.{IsServing}
use Rattle.rar_loop.specs.Inner.Kept.{AreFor}
use Rattle.rar_loop.specs.Inner.Trying.{HasReplaced, IsBack, IsBetter, IsReplaced}
use Rattle.changed_nodes.proofs.Public.{same_back}
use Rattle.rar_loop.proofs.Differing.{differs_none}
use Rattle.rar_loop.proofs.Opens.{no_fewer_fails}
use Rattle.rar_loop.proofs.Readying.{ready_first}
use Rattle.rar_loop.proofs.Replacing.{better_of, lent_ahead, not_replaced_fails, some_wire}
use Rattle.rar_loop.proofs.trying.try_pair.Goals as goal
use Rattle.rm_base.specs.Numbers.{numbers_of}

pub replace-requires-clause-ready : goal.replace-requires-clause-ready
replace-requires-clause-ready c =
    let t = c.args.space.now.trial in
    let formed : IsWellFormed (net_of t.graph) = subst (λ (v : Circuit). IsWellFormed (net_of v)) c.graph.ensures c.well_formed-2.ensures.net in
    let size : HasSize t.graph = subst HasSize c.graph.ensures (record { live = c.well_formed-2.ensures.live; pins = c.well_formed-2.ensures.held }) in
    ready_first t (net_of t.graph) refl c.tidying_ends.ensures.bounded formed (omega (arith, ap (λ r. r.steps) c.requires.ready.lent.room, c.requires.ready.lent.steps)) (omega (arith, c.requires.ready.lent.few, size.live, size.pins))

pub replace-requires-clause-room : goal.replace-requires-clause-room
replace-requires-clause-room c = omega (arith, ap (λ r. r.nodes) c.requires.ready.lent.room, c.requires.ready.lent.nodes, some_wire (net_of c.args.space.now.trial.graph) c.args.pair.now.fault c.requires.pair.pin)

pub replace-requires-clause-pins : goal.replace-requires-clause-pins
replace-requires-clause-pins c = omega (arith, ap (λ r. r.pins) c.requires.ready.lent.room, c.requires.ready.lent.pins, some_wire (net_of c.args.space.now.trial.graph) c.args.pair.now.fault c.requires.pair.pin)

pub returns-then-not-refuted-clause-try_outcome : goal.returns-then-not-refuted-clause-try_outcome
returns-then-not-refuted-clause-try_outcome c =
    let t = c.args.space.now.trial in
    let net : Net = net_of t.graph in
    let after : Net = net_of c.replace.new.space.trial.graph in
    let size : HasSize t.graph = subst HasSize c.graph.ensures (record { live = c.well_formed-2.ensures.live; pins = c.well_formed-2.ensures.held }) in
    let none : c.in_ok-refuted.refuted ≡ false = c.if-not-refuted.true in
    let fails : HasReplaced net c.args.pair.now c.args.depth c.replace.new.log.items after false = subst (λ (b : Bool). HasReplaced net c.args.pair.now c.args.depth c.replace.new.log.items after b) none c.in_ok-refuted.ensures.replaced in (
      c.give_back.ensures t c.requires.ready.lent c.in_ok-refuted.ensures.start c.in_ok-refuted.ensures.first size.live,
      not_replaced_fails c.closed_has_all.ensures net after c.args.pair.now c.args.depth c.replace.new.log.items fails,
    )

pub returns-then-wire_count-wires-clause-try_outcome : goal.returns-then-wire_count-wires-clause-try_outcome
returns-then-wire_count-wires-clause-try_outcome c =
    let t = c.args.space.now.trial in
    let net : Net = net_of t.graph in
    let after : Net = net_of c.replace.new.space.trial.graph in
    let formed : IsWellFormed net = subst (λ (v : Circuit). IsWellFormed (net_of v)) c.graph.ensures c.well_formed-2.ensures.net in
    let size : HasSize t.graph = subst HasSize c.graph.ensures (record { live = c.well_formed-2.ensures.live; pins = c.well_formed-2.ensures.held }) in
    let now : HasSize c.keep.new.self.graph = subst HasSize c.graph-then-wire_count-wires.ensures (record { live = c.well_formed-then-wire_count-wires.ensures.live; pins = c.well_formed-then-wire_count-wires.ensures.held }) in
    let some : c.in_ok-refuted.refuted ≡ true = c.if-not-refuted.false in
    let replaced : IsReplaced net c.args.pair.now c.args.depth c.replace.new.log.items after = subst (λ (b : Bool). HasReplaced net c.args.pair.now c.args.depth c.replace.new.log.items after b) some c.in_ok-refuted.ensures.replaced in
    let count : c.wire_count.result ≡ wire_count after = c.wire_count.ensures ∙ ap (λ (v : Circuit). wire_count (net_of v)) c.graph-3.ensures in
    let fewer : wire_count after < wire_count net = omega (arith, c.if-wire_count-wires.true, count, c.requires.wires) in
    let tallies : Tallies t c.replace.new.space.trial c.new-log.result.items c.replace.new.log.items = c.in_ok-refuted.ensures.tallies some in
    let held : pins_held c.keep.new.self.graph ≡ pins_held t.graph = held_back t.graph t c.replace.new.space.trial c.keep.new.self.graph refl c.requires.ready.lent.entries tallies.holds c.keep.ensures.held in
    let first : t.room.steps ≡ t.first.steps = ap (λ r. r.steps) c.requires.ready.lent.room in
    let none : length c.new-log.result.items ≡ 0 = ap (λ (rs : List Record). length rs) c.new-log.ensures.items in
    let few : length c.replace.new.log.items ≤ most_steps = omega (arith, tallies.spent, none, first, c.requires.ready.lent.few_steps) in
    let better : IsBetter t.graph c.args.pair.now c.args.depth c.replace.new.log.items c.keep.new.self.graph = better_of c.accepted_steps_keep.ensures t.graph c.keep.new.self.graph after c.args.pair.now c.args.depth c.replace.new.log.items formed size now c.keep.ensures.net replaced fewer held few in
    record {
      better = better;
      lent = lent_ahead c.accepted_steps_keep.ensures t c.replace.new.space.trial c.keep.new.self c.args.pair.now c.args.depth c.replace.new.log.items formed c.requires.ready.lent replaced better (c.in_ok-refuted.ensures.left some) c.in_ok-refuted.ensures.first c.keep.ensures.entries c.keep.ensures.room c.keep.ensures.first c.keep.ensures.net;
    }

pub returns-clause-try_outcome : goal.returns-clause-try_outcome
returns-clause-try_outcome c =
    let t = c.args.space.now.trial in
    let net : Net = net_of t.graph in
    let after : Net = net_of c.replace.new.space.trial.graph in
    let size : HasSize t.graph = subst HasSize c.graph.ensures (record { live = c.well_formed-2.ensures.live; pins = c.well_formed-2.ensures.held }) in
    let some : c.in_ok-refuted.refuted ≡ true = c.if-not-refuted.false in
    let replaced : IsReplaced net c.args.pair.now c.args.depth c.replace.new.log.items after = subst (λ (b : Bool). HasReplaced net c.args.pair.now c.args.depth c.replace.new.log.items after b) some c.in_ok-refuted.ensures.replaced in
    let count : c.wire_count.result ≡ wire_count after = c.wire_count.ensures ∙ ap (λ (v : Circuit). wire_count (net_of v)) c.graph-3.ensures in
    let le : wire_count net ≤ wire_count after = omega (arith, c.if-wire_count-wires.false, count, c.requires.wires) in (
      subst (λ (u : Tried). IsBack t u) (sym c.follow_back.ensures.trial) (c.give_back-2.ensures t c.requires.ready.lent c.in_ok-refuted.ensures.start c.in_ok-refuted.ensures.first size.live),
      no_fewer_fails c.closed_has_all.ensures net after c.args.pair.now c.args.depth c.replace.new.log.items replaced le,
    )

pub follow_back-requires : goal.follow_back-requires
follow_back-requires c =
    let net : Net = net_of c.args.space.now.trial.graph in
    let after : Net = net_of c.replace.new.space.trial.graph in
    let some : c.in_ok-refuted.refuted ≡ true = c.if-not-refuted.false in
    let vectors : AreFor c.replace.new.space.vectors after = subst (λ (b : Bool). AreFor c.replace.new.space.vectors (if b then after else net)) some c.in_ok-refuted.ensures.vectors in
    let none : numbers_of c.clear.new.self.items ≡ [] = ap numbers_of c.clear.ensures.items in
    let differs : DiffersAmong net after (numbers_of c.replace.new.space.touched.items) = c.in_ok-refuted.ensures.touched some net (subst (DiffersAmong net net) (sym none) (differs_none net)) in
    let size : HasSize c.args.space.now.trial.graph = subst HasSize c.graph.ensures (record { live = c.well_formed-2.ensures.live; pins = c.well_formed-2.ensures.held }) in
    let back : IsBack c.args.space.now.trial c.give_back-2.new.trial = c.give_back-2.ensures c.args.space.now.trial c.requires.ready.lent c.in_ok-refuted.ensures.start c.in_ok-refuted.ensures.first size.live in
    let refuter : IsServing after c.replace.new.space.refuter = subst (λ (b : Bool). IsServing (if b then after else with_candidate net c.args.pair.now.candidate) c.replace.new.space.refuter) some c.in_ok-refuted.ensures.serves in
    record {
      net = after;
      tools = record { vectors = vectors; refuter = refuter };
      differs = subst (λ (n : Net). DiffersAmong n after (numbers_of c.replace.new.space.touched.items)) (sym back.same.net) differs;
    }

pub follow-requires : goal.follow-requires
follow-requires c =
    let net : Net = net_of c.args.space.now.trial.graph in
    let none : c.in_ok-refuted.refuted ≡ false = c.if-not-refuted.true in
    let refuter : IsServing (with_candidate net c.args.pair.now.candidate) c.replace.new.space.refuter = subst (λ (b : Bool). IsServing (if b then net_of c.replace.new.space.trial.graph else with_candidate net c.args.pair.now.candidate) c.replace.new.space.refuter) none c.in_ok-refuted.ensures.serves in
    let size : HasSize c.args.space.now.trial.graph = subst HasSize c.graph.ensures (record { live = c.well_formed-2.ensures.live; pins = c.well_formed-2.ensures.held }) in
    let back : IsBack c.args.space.now.trial c.give_back.new.trial = c.give_back.ensures c.args.space.now.trial c.requires.ready.lent c.in_ok-refuted.ensures.start c.in_ok-refuted.ensures.first size.live in
    let first : net_of c.graph-2.result.now ≡ net = ap (λ (v : Circuit). net_of v) c.graph-2.ensures in
    let changes : IsSameBut net (with_candidate net c.args.pair.now.candidate) (numbers_of c.in_ok-added.added.items) = subst (λ (n : Net). IsSameBut n (with_candidate n c.args.pair.now.candidate) (numbers_of c.in_ok-added.added.items)) first c.in_ok-added.ensures in
    record { before = (with_candidate net c.args.pair.now.candidate, (refuter, same_back net (net_of c.graph-then-not-refuted.result.now) (with_candidate net c.args.pair.now.candidate) c.in_ok-added.added.items c.as_slice-then-not-refuted.result.now (ap (λ (v : Circuit). net_of v) c.graph-then-not-refuted.ensures ∙ back.same.net) c.as_slice-then-not-refuted.ensures.value changes)) }

pub returns-then-not-refuted-clause-tools : goal.returns-then-not-refuted-clause-tools
returns-then-not-refuted-clause-tools c =
    let net : Net = net_of c.args.space.now.trial.graph in
    let none : c.in_ok-refuted.refuted ≡ false = c.if-not-refuted.true in
    let vectors : AreFor c.replace.new.space.vectors net = subst (λ (b : Bool). AreFor c.replace.new.space.vectors (if b then net_of c.replace.new.space.trial.graph else net)) none c.in_ok-refuted.ensures.vectors in
    let size : HasSize c.args.space.now.trial.graph = subst HasSize c.graph.ensures (record { live = c.well_formed-2.ensures.live; pins = c.well_formed-2.ensures.held }) in
    let back : IsBack c.args.space.now.trial c.give_back.new.trial = c.give_back.ensures c.args.space.now.trial c.requires.ready.lent c.in_ok-refuted.ensures.start c.in_ok-refuted.ensures.first size.live in
    record {
      vectors = subst (AreFor c.replace.new.space.vectors) (sym back.same.net) vectors;
      refuter = subst (λ (v : Circuit). IsServing (net_of v) c.follow.new.self) c.graph-then-not-refuted.ensures c.in_ok-follow.ensures.serves;
    }

pub returns-then-wire_count-wires-clause-tools : goal.returns-then-wire_count-wires-clause-tools
returns-then-wire_count-wires-clause-tools c =
    let after : Net = net_of c.replace.new.space.trial.graph in
    let some : c.in_ok-refuted.refuted ≡ true = c.if-not-refuted.false in
    let vectors : AreFor c.replace.new.space.vectors after = subst (λ (b : Bool). AreFor c.replace.new.space.vectors (if b then after else net_of c.args.space.now.trial.graph)) some c.in_ok-refuted.ensures.vectors in
    let refuter : IsServing after c.replace.new.space.refuter = subst (λ (b : Bool). IsServing (if b then after else with_candidate (net_of c.args.space.now.trial.graph) c.args.pair.now.candidate) c.replace.new.space.refuter) some c.in_ok-refuted.ensures.serves in
    record {
      vectors = subst (AreFor c.replace.new.space.vectors) (sym c.keep.ensures.net) vectors;
      refuter = subst (λ (n : Net). IsServing n c.replace.new.space.refuter) (sym c.keep.ensures.net) refuter;
    }
