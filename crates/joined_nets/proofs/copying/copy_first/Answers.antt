use Rattle.std.proofs.Common.{[], ap, arith, length, subst, sym, ℕ, ◌+◌, ◌∙◌}
use Rattle.gate_graph.specs.Circuit.{net_of}
use Rattle.gate_graph.specs.Start.{first_net}
use Rattle.gate_net.specs.Net.{Net}
use Rattle.joined_nets.specs.Growing.{Fits}
use Rattle.joined_nets.proofs.Both.{first_length, first_whole, made_first, one_fits}
use Rattle.joined_nets.proofs.copying.copy_first.Goals as goal

pub add_gates-requires-clause-whole : goal.add_gates-requires-clause-whole
add_gates-requires-clause-whole c = first_whole c.in_ok-graph.graph c.source_count.result c.in_ok-graph.ensures.net c.in_ok-graph.ensures.pins c.in_ok-graph.ensures.nodes

pub add_gates-requires-clause-first : goal.add_gates-requires-clause-first
add_gates-requires-clause-first c = ap (λ (i : ℕ). 2 + i) c.source_count-first.ensures

pub add_gates-requires-clause-count : goal.add_gates-requires-clause-count
add_gates-requires-clause-count c =
    ap (λ (i : ℕ). 2 + i) c.source_count-first.ensures
    ∙ sym (ap (λ (n : Net). length n.nodes) (c.in_ok-graph.ensures.net ∙ ap (λ (i : ℕ). first_net i) c.source_count.ensures) ∙ first_length (net_of c.args.a.now) c.well_formed-2.ensures.net)

pub add_gates-requires-clause-later : goal.add_gates-requires-clause-later
add_gates-requires-clause-later c = omega arith

pub add_gates-requires-clause-small : goal.add_gates-requires-clause-small
add_gates-requires-clause-small c =
    let is = c.source_count-first.ensures in
    let sources = c.requires.small.sources in
    let nodes = c.requires.small.nodes in
    omega (arith, is, sources, nodes)

pub add_gates-requires-clause-fits : goal.add_gates-requires-clause-fits
add_gates-requires-clause-fits c =
    subst (λ (n : Net). Fits n)
    (sym (made_first (net_of c.args.a.now) (net_of c.in_ok-graph.graph) (2 + c.source_count-first.result) c.well_formed-2.ensures.net (c.in_ok-graph.ensures.net ∙ ap (λ (i : ℕ). first_net i) c.source_count.ensures) (ap (λ (i : ℕ). 2 + i) c.source_count-first.ensures)))
    (one_fits (net_of c.args.a.now) [] c.requires.small)

pub returns-clause-net : goal.returns-clause-net
returns-clause-net c =
    c.in_ok-add_gates.ensures.net
    ∙ made_first (net_of c.args.a.now) (net_of c.in_ok-graph.graph) (2 + c.source_count-first.result) c.well_formed-2.ensures.net (c.in_ok-graph.ensures.net ∙ ap (λ (i : ℕ). first_net i) c.source_count.ensures) (ap (λ (i : ℕ). 2 + i) c.source_count-first.ensures)

pub returns-clause-whole : goal.returns-clause-whole
returns-clause-whole c = c.in_ok-add_gates.ensures.whole
