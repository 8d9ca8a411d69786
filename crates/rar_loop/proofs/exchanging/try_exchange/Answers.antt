use Rattle.std.proofs.Common.{◌≡◌, Bool, true, false, [], refl, sym, ◌∙◌, ap, subst, arith}
use Rattle.std.specs.Prelude.{if◌then◌else◌, nat_lt, ◌||◌}
use Rattle.gate_net.specs.Edits.{IsSameBut}
use Rattle.gate_net.specs.Net.{Net, IsWellFormed, gate_count, wire_count}
use Rattle.rar_loop.specs.Sizes.{IsSame}
use Rattle.rar_loop.proofs.Sizing.{HasSize}
use Rattle.gate_graph.specs.Circuit.{Circuit, net_of}
use Rattle.wire_edit.specs.Tried.{Tried}
use Rattle.fault_sim.specs.Following.{DiffersAmong}
use Rattle.candidate_wires.specs.Gains.{with_candidate}
use Rattle.recursive_learning.specs.Serving.{IsServing}
use Rattle.rar_loop.specs.Inner.Exchanging.{IsExchanged}
use Rattle.rar_loop.specs.Inner.Kept.{AreFor}
use Rattle.rar_loop.specs.Inner.Trying.{HasReplaced, IsBack, IsReplaced}
use Rattle.rar_loop.proofs.Exchanges.{exchanged_kept, exchanged_on}
use Rattle.rar_loop.proofs.Looping.{same_size}
use Rattle.changed_nodes.proofs.Public.{same_back}
use Rattle.rar_loop.proofs.Differing.{differs_none}
use Rattle.rar_loop.proofs.Readying.{ready_first}
use Rattle.rar_loop.proofs.Replacing.{some_wire}
use Rattle.rar_loop.proofs.exchanging.try_exchange.Goals as goal
use Rattle.rm_base.specs.Numbers.{numbers_of}

pub replace-requires-clause-ready : goal.replace-requires-clause-ready
replace-requires-clause-ready c =
    let t = c.args.space.now.trial in
    let formed : IsWellFormed (net_of t.graph) = subst (λ (v : Circuit). IsWellFormed (net_of v)) c.graph.ensures c.well_formed-2.ensures.net in
    let size : HasSize t.graph = subst HasSize c.graph.ensures (record { live = c.well_formed-2.ensures.live; pins = c.well_formed-2.ensures.held }) in
    ready_first t (net_of t.graph) refl c.tidying_ends.ensures.bounded formed (omega (arith, ap (λ r. r.steps) c.requires.ready.lent.room, c.requires.ready.lent.steps)) (omega (arith, c.requires.ready.lent.few, size.live, size.pins))

pub replace-requires-clause-room : goal.replace-requires-clause-room
replace-requires-clause-room c = omega (arith, ap (λ r. r.nodes) c.requires.ready.lent.room, c.requires.ready.lent.nodes, some_wire (net_of c.args.space.now.trial.graph) c.args.pair.now.fault c.requires.pair.pin)

pub replace-requires-clause-pins : goal.replace-requires-clause-pins
replace-requires-clause-pins c = omega (arith, ap (λ r. r.pins) c.requires.ready.lent.room, c.requires.ready.lent.pins, some_wire (net_of c.args.space.now.trial.graph) c.args.pair.now.fault c.requires.pair.pin)

pub follow-requires : goal.follow-requires
follow-requires c =
    let net : Net = net_of c.args.space.now.trial.graph in
    let none : c.in_ok-refuted.refuted ≡ false = c.if-not-refuted.true in
    let refuter : IsServing (with_candidate net c.args.pair.now.candidate) c.replace.new.space.refuter = subst (λ (b : Bool). IsServing (if b then net_of c.replace.new.space.trial.graph else with_candidate net c.args.pair.now.candidate) c.replace.new.space.refuter) none c.in_ok-refuted.ensures.serves in
    let size : HasSize c.args.space.now.trial.graph = subst HasSize c.graph.ensures (record { live = c.well_formed-2.ensures.live; pins = c.well_formed-2.ensures.held }) in
    let back : IsBack c.args.space.now.trial c.give_back.new.trial = c.give_back.ensures c.args.space.now.trial c.requires.ready.lent c.in_ok-refuted.ensures.start c.in_ok-refuted.ensures.first size.live in
    let first : net_of c.graph-4.result.now ≡ net = ap (λ (v : Circuit). net_of v) c.graph-4.ensures in
    let changes : IsSameBut net (with_candidate net c.args.pair.now.candidate) (numbers_of c.in_ok-added.added.items) = subst (λ (n : Net). IsSameBut n (with_candidate n c.args.pair.now.candidate) (numbers_of c.in_ok-added.added.items)) first c.in_ok-added.ensures in
    record { before = (with_candidate net c.args.pair.now.candidate, (refuter, same_back net (net_of c.graph-then-not-refuted.result.now) (with_candidate net c.args.pair.now.candidate) c.in_ok-added.added.items c.as_slice-then-not-refuted.result.now (ap (λ (v : Circuit). net_of v) c.graph-then-not-refuted.ensures ∙ back.same.net) c.as_slice-then-not-refuted.ensures.value changes)) }

pub follow_back-requires : goal.follow_back-requires
follow_back-requires c =
    let net : Net = net_of c.args.space.now.trial.graph in
    let after : Net = net_of c.replace.new.space.trial.graph in
    let some : c.in_ok-refuted.refuted ≡ true = c.if-not-refuted.false in
    let vectors : AreFor c.replace.new.space.vectors after = subst (λ (b : Bool). AreFor c.replace.new.space.vectors (if b then after else net)) some c.in_ok-refuted.ensures.vectors in
    let none : numbers_of c.clear.new.self.items ≡ [] = ap numbers_of c.clear.ensures.items in
    let differs : DiffersAmong net after (numbers_of c.replace.new.space.touched.items) = c.in_ok-refuted.ensures.touched some net (subst (DiffersAmong net net) (sym none) (differs_none net)) in
    let size : HasSize c.args.space.now.trial.graph = subst HasSize c.graph.ensures (record { live = c.well_formed-2.ensures.live; pins = c.well_formed-2.ensures.held }) in
    let back : IsBack c.args.space.now.trial c.give_back-then-is_larger.new.trial = c.give_back-then-is_larger.ensures c.args.space.now.trial c.requires.ready.lent c.in_ok-refuted.ensures.start c.in_ok-refuted.ensures.first size.live in
    let refuter : IsServing after c.replace.new.space.refuter = subst (λ (b : Bool). IsServing (if b then after else with_candidate net c.args.pair.now.candidate) c.replace.new.space.refuter) some c.in_ok-refuted.ensures.serves in
    record {
      net = after;
      tools = record { vectors = vectors; refuter = refuter };
      differs = subst (λ (n : Net). DiffersAmong n after (numbers_of c.replace.new.space.touched.items)) (sym back.same.net) differs;
    }

pub returns-then-is_larger-clause-tried : goal.returns-then-is_larger-clause-tried
returns-then-is_larger-clause-tried c =
    let t = c.args.space.now.trial in
    let size : HasSize t.graph = subst HasSize c.graph.ensures (record { live = c.well_formed-2.ensures.live; pins = c.well_formed-2.ensures.held }) in
    subst (λ (u : Tried). IsBack t u) (sym c.follow_back.ensures.trial) (c.give_back-then-is_larger.ensures t c.requires.ready.lent c.in_ok-refuted.ensures.start c.in_ok-refuted.ensures.first size.live)

pub lend_again-requires-clause-few : goal.lend_again-requires-clause-few
lend_again-requires-clause-few c =
    let t = c.args.space.now.trial in
    let net : Net = net_of t.graph in
    let after : Circuit = c.replace.new.space.trial.graph in
    let some : c.in_ok-refuted.refuted ≡ true = c.if-not-refuted.false in
    let formed : IsWellFormed net = subst (λ (v : Circuit). IsWellFormed (net_of v)) c.graph.ensures c.well_formed-2.ensures.net in
    let size : HasSize t.graph = subst HasSize c.graph.ensures (record { live = c.well_formed-2.ensures.live; pins = c.well_formed-2.ensures.held }) in
    let now : HasSize c.keep.new.self.graph = subst HasSize c.graph-6.ensures (record { live = c.well_formed-3.ensures.live; pins = c.well_formed-3.ensures.held }) in
    let replaced : IsReplaced net c.args.pair.now c.args.depth c.replace.new.log.items (net_of after) = subst (λ (b : Bool). HasReplaced net c.args.pair.now c.args.depth c.replace.new.log.items (net_of after) b) some c.in_ok-refuted.ensures.replaced in
    let wires : c.wire_count-wires.result ≡ wire_count net = c.wire_count-wires.ensures ∙ ap (λ (v : Circuit). wire_count (net_of v)) c.graph-2.ensures in
    let gates : c.gate_count-gates.result ≡ gate_count net = c.gate_count-gates.ensures ∙ ap (λ (v : Circuit). gate_count (net_of v)) c.graph-3.ensures in
    let small : (nat_lt c.wire_count-wires.result (wire_count (net_of after)) || nat_lt c.gate_count-gates.result (gate_count (net_of after))) ≡ false =
    subst (λ (v : Circuit). (nat_lt c.wire_count-wires.result (wire_count (net_of v)) || nat_lt c.gate_count-gates.result (gate_count (net_of v))) ≡ false) c.graph-5.ensures (sym c.is_larger.ensures ∙ c.if-is_larger.false) in
    let exchanged : IsExchanged t.graph c.args.pair.now.fault c.args.depth c.replace.new.log.items c.keep.new.self.graph =
    exchanged_kept c.accepted_steps_keep.ensures t c.replace.new.space.trial c.keep.new.self c.args.pair.now c.args.depth c.new-log.result.items c.replace.new.log.items c.wire_count-wires.result c.gate_count-gates.result formed size now c.requires.ready.lent c.requires.pair.pin replaced wires gates small (c.in_ok-refuted.ensures.tallies some) c.new-log.ensures.items c.keep.ensures.net c.keep.ensures.held in
    omega (arith, exchanged.within.size, c.requires.ready.lent.few)

pub returns-clause-tried : goal.returns-clause-tried
returns-clause-tried c =
    let t = c.args.space.now.trial in
    let net : Net = net_of t.graph in
    let after : Circuit = c.replace.new.space.trial.graph in
    let some : c.in_ok-refuted.refuted ≡ true = c.if-not-refuted.false in
    let formed : IsWellFormed net = subst (λ (v : Circuit). IsWellFormed (net_of v)) c.graph.ensures c.well_formed-2.ensures.net in
    let size : HasSize t.graph = subst HasSize c.graph.ensures (record { live = c.well_formed-2.ensures.live; pins = c.well_formed-2.ensures.held }) in
    let now : HasSize c.keep.new.self.graph = subst HasSize c.graph-6.ensures (record { live = c.well_formed-3.ensures.live; pins = c.well_formed-3.ensures.held }) in
    let last : HasSize c.lend_again.new.trial.graph = subst HasSize c.graph-7.ensures (record { live = c.well_formed-4.ensures.live; pins = c.well_formed-4.ensures.held }) in
    let replaced : IsReplaced net c.args.pair.now c.args.depth c.replace.new.log.items (net_of after) = subst (λ (b : Bool). HasReplaced net c.args.pair.now c.args.depth c.replace.new.log.items (net_of after) b) some c.in_ok-refuted.ensures.replaced in
    let wires : c.wire_count-wires.result ≡ wire_count net = c.wire_count-wires.ensures ∙ ap (λ (v : Circuit). wire_count (net_of v)) c.graph-2.ensures in
    let gates : c.gate_count-gates.result ≡ gate_count net = c.gate_count-gates.ensures ∙ ap (λ (v : Circuit). gate_count (net_of v)) c.graph-3.ensures in
    let small : (nat_lt c.wire_count-wires.result (wire_count (net_of after)) || nat_lt c.gate_count-gates.result (gate_count (net_of after))) ≡ false =
    subst (λ (v : Circuit). (nat_lt c.wire_count-wires.result (wire_count (net_of v)) || nat_lt c.gate_count-gates.result (gate_count (net_of v))) ≡ false) c.graph-5.ensures (sym c.is_larger.ensures ∙ c.if-is_larger.false) in
    let exchanged : IsExchanged t.graph c.args.pair.now.fault c.args.depth c.replace.new.log.items c.keep.new.self.graph =
    exchanged_kept c.accepted_steps_keep.ensures t c.replace.new.space.trial c.keep.new.self c.args.pair.now c.args.depth c.new-log.result.items c.replace.new.log.items c.wire_count-wires.result c.gate_count-gates.result formed size now c.requires.ready.lent c.requires.pair.pin replaced wires gates small (c.in_ok-refuted.ensures.tallies some) c.new-log.ensures.items c.keep.ensures.net c.keep.ensures.held in
    let same : IsSame c.keep.new.self.graph c.lend_again.new.trial.graph = same_size c.keep.new.self.graph c.lend_again.new.trial.graph now last c.lend_again.ensures.stays.net c.lend_again.ensures.stays.held in
    (exchanged_on t.graph c.keep.new.self.graph c.lend_again.new.trial.graph c.args.pair.now.fault c.args.depth c.replace.new.log.items same exchanged, c.in_ok-lend_again.ensures.lent)

pub returns-clause-tools : goal.returns-clause-tools
returns-clause-tools c =
    let net : Net = net_of c.args.space.now.trial.graph in
    let after : Net = net_of c.replace.new.space.trial.graph in
    let some : c.in_ok-refuted.refuted ≡ true = c.if-not-refuted.false in
    let vectors : AreFor c.replace.new.space.vectors after = subst (λ (b : Bool). AreFor c.replace.new.space.vectors (if b then after else net)) some c.in_ok-refuted.ensures.vectors in
    let refuter : IsServing after c.replace.new.space.refuter = subst (λ (b : Bool). IsServing (if b then after else with_candidate net c.args.pair.now.candidate) c.replace.new.space.refuter) some c.in_ok-refuted.ensures.serves in
    let is : net_of c.lend_again.new.trial.graph ≡ after = c.lend_again.ensures.stays.net ∙ c.keep.ensures.net in
    record {
      vectors = subst (AreFor c.replace.new.space.vectors) (sym is) vectors;
      refuter = subst (λ (n : Net). IsServing n c.replace.new.space.refuter) (sym is) refuter;
    }
