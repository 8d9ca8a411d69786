use Rattle.std.proofs.Common.{[], ap, arith, length, subst, sym, ℕ, ◌+◌, ◌∙◌}
use Rattle.gate_graph.specs.Circuit.{net_of}
use Rattle.gate_net.specs.Net.{Net}
use Rattle.joined_nets.specs.Growing.{Fits}
use Rattle.joined_nets.proofs.Both.{both_fits, gates_later, made_both}
use Rattle.joined_nets.proofs.copying.copy_both.Goals as goal

pub add_gates-requires-clause-whole : goal.add_gates-requires-clause-whole
add_gates-requires-clause-whole c = c.in_ok-graph.ensures.whole

pub add_gates-requires-clause-first : goal.add_gates-requires-clause-first
add_gates-requires-clause-first c = ap (λ (i : ℕ). 2 + i) (c.source_count-first.ensures ∙ c.requires.share.sources)

pub add_gates-requires-clause-count : goal.add_gates-requires-clause-count
add_gates-requires-clause-count c = c.node_bound-count.ensures

pub add_gates-requires-clause-later : goal.add_gates-requires-clause-later
add_gates-requires-clause-later c =
    let first = c.source_count-first.ensures in
    let count = c.node_bound-count.ensures ∙ ap (λ (n : Net). length n.nodes) c.in_ok-graph.ensures.net in
    let later = gates_later (net_of c.args.a.now) c.requires.share.first in
    omega (arith, first, count, later)

pub add_gates-requires-clause-small : goal.add_gates-requires-clause-small
add_gates-requires-clause-small c =
    let count = c.node_bound-count.ensures ∙ ap (λ (n : Net). length n.nodes) c.in_ok-graph.ensures.net in
    let nodes = c.requires.small.nodes in
    let others = c.requires.other_small.nodes in
    omega (arith, count, nodes, others)

pub add_gates-requires-clause-fits : goal.add_gates-requires-clause-fits
add_gates-requires-clause-fits c =
    subst (λ (n : Net). Fits n)
    (sym (made_both (net_of c.args.a.now) (net_of c.args.b.now) (net_of c.in_ok-graph.graph) (2 + c.source_count-first.result) c.node_bound-count.result c.in_ok-graph.ensures.net (ap (λ (i : ℕ). 2 + i) c.source_count-first.ensures) c.node_bound-count.ensures))
    (both_fits (net_of c.args.a.now) (net_of c.args.b.now) [] c.requires.small c.requires.other_small)

pub returns-clause-net : goal.returns-clause-net
returns-clause-net c =
    c.in_ok-add_gates.ensures.net
    ∙ made_both (net_of c.args.a.now) (net_of c.args.b.now) (net_of c.in_ok-graph.graph) (2 + c.source_count-first.result) c.node_bound-count.result c.in_ok-graph.ensures.net (ap (λ (i : ℕ). 2 + i) c.source_count-first.ensures) c.node_bound-count.ensures

pub returns-clause-whole : goal.returns-clause-whole
returns-clause-whole c = c.in_ok-add_gates.ensures.whole
