use Rattle.std.proofs.Common.{◌≡◌, List, ◌++◌, sym, ◌∙◌, ap, subst}
use Rattle.rm_base.specs.declared.numbers.NodeId.{NodeId}
use Rattle.gate_net.specs.Net.{IsWellFormed, Net, source_count}
use Rattle.gate_graph.specs.Circuit.{Circuit, net_of}
use Rattle.fault_sim.specs.Following.{DiffersAmong}
use Rattle.changed_nodes.specs.Changing.{AreNoted, ListsNoted}
use Rattle.changed_nodes.proofs.Public.{same_through}
use Rattle.rar_loop.proofs.Differing.{differs_listed, touches_then}
use Rattle.rar_loop.proofs.workspace.Workspace.follow.Goals as goal
use Rattle.wire_edit.proofs.Public.{tidy_reads_none}
use Rattle.rm_base.specs.Numbers.{numbers_of}
use Rattle.wire_edit.specs.Removals.{ReadsNoConstants}

pub follow-requires : goal.follow-requires
follow-requires c =
    let net : Net = net_of c.graph-graph.result.now in
    let same : net ≡ net_of c.args.self.now.trial.graph = ap (λ (v : Circuit). net_of v) c.graph-graph.ensures in
    let none : ReadsNoConstants net = subst ReadsNoConstants (sym same) (tidy_reads_none (net_of c.args.self.now.trial.graph) (subst IsWellFormed same c.well_formed-2.ensures.net) c.requires.tidy) in
    let f = c.requires.follows in
    let differs : DiffersAmong f.before net (numbers_of c.in_ok-nodes.nodes.items) =
    differs_listed f.before net c.args.changed.now c.in_ok-nodes.nodes.items none (ap source_count same ∙ f.sources) (subst (λ (n : Net). AreNoted f.before n c.args.changed.now) (sym same) f.noted) c.in_ok-nodes.ensures in
    record { follows = (f.before, (f.vectors, subst (λ (ns : List NodeId). DiffersAmong f.before net (numbers_of ns)) (sym c.as_slice.ensures.value) differs)) }

pub returns-clause-touched : goal.returns-clause-touched
returns-clause-touched c = λ first noted sources.
    let net : Net = net_of c.args.self.now.trial.graph in
    let same : net_of c.graph-graph.result.now ≡ net = ap (λ (v : Circuit). net_of v) c.graph-graph.ensures in
    let none : ReadsNoConstants net = tidy_reads_none net (subst IsWellFormed same c.well_formed-2.ensures.net) c.requires.tidy in
    let differs : DiffersAmong first net (numbers_of c.in_ok-nodes.nodes.items) =
    differs_listed first net c.args.changed.now c.in_ok-nodes.nodes.items none sources noted
    (subst (λ (n : Net). ListsNoted n c.args.changed.now c.in_ok-nodes.nodes.items) same c.in_ok-nodes.ensures) in
    touches_then first net c.args.self.now.touched.items c.in_ok-nodes.nodes.items c.extend_from_slice.new.self.items (c.in_ok-extend_from_slice.ensures.items ∙ ap (λ (ns : List NodeId). c.args.self.now.touched.items ++ ns) c.as_slice-2.ensures.value) differs

pub follow-requires-2 : goal.follow-requires-2
follow-requires-2 c =
    let net : Net = net_of c.graph-graph.result.now in
    let same : net ≡ net_of c.args.self.now.trial.graph = ap (λ (v : Circuit). net_of v) c.graph-graph.ensures in
    let none : ReadsNoConstants net = subst ReadsNoConstants (sym same) (tidy_reads_none (net_of c.args.self.now.trial.graph) (subst IsWellFormed same c.well_formed-2.ensures.net) c.requires.tidy) in
    let f = c.requires.follows in
    let differs : DiffersAmong f.before net (numbers_of c.in_ok-nodes.nodes.items) =
    differs_listed f.before net c.args.changed.now c.in_ok-nodes.nodes.items none (ap source_count same ∙ f.sources) (subst (λ (n : Net). AreNoted f.before n c.args.changed.now) (sym same) f.noted) c.in_ok-nodes.ensures in
    record { before = (f.served, (f.refuter, same_through f.served f.before net c.args.added.now c.in_ok-nodes.nodes.items c.as_slice-3.result.now f.near differs.others (c.as_slice-3.ensures.value ∙ c.in_ok-extend_from_slice-2.ensures.items))) }
