use Rattle.std.proofs.Common.{ap, arith, length, sym, ℕ, ◌+◌, ◌∙◌}
use Rattle.gate_graph.specs.Circuit.{net_of}
use Rattle.joined_nets.specs.Joined.{first_gate, moved}
use Rattle.joined_nets.proofs.Public.{live_below}
use Rattle.care_opt.proofs.GatingAnds.{first_moved}
use Rattle.care_opt.proofs.gating.care_gate.Goals as goal

pub moved-requires : goal.moved-requires
moved-requires c =
    let low = live_below (net_of c.args.b.now) c.observed_at.result.0 (c.requires.share.second.observed_live c.observed_at.result.0 (0, sym c.observed_at.ensures)) in
    let nodes = c.requires.small.nodes in
    let others = c.requires.other_small.nodes in
    let bound = c.node_bound.ensures in
    omega (arith, low, nodes, others, bound)

pub returns : goal.returns
returns c =
    c.moved.ensures
    ∙ (ap (λ (i : ℕ). moved (2 + i) c.node_bound.result c.observed_at.result.0) c.source_count-first.ensures
    ∙ (ap (λ (i : ℕ). moved (first_gate (net_of c.args.a.now)) i c.observed_at.result.0) c.node_bound.ensures
    ∙ first_moved (moved (first_gate (net_of c.args.a.now)) (length (net_of c.args.a.now).nodes)) (net_of c.args.b.now).observed c.observed_at.result.0 c.observed_at.ensures))
