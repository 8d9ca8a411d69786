use Rattle.std.proofs.Common.{◌+◌, ◌-◌, ◌<◌, ◌≤◌, ◌∙◌, subst, length, arith}
use Rattle.std.proofs.lemmas.List.{get_or_default}
use Rattle.rm_base.specs.declared.vectors.Value3.TheVariants.{Unknown}
use Rattle.gate_net.specs.declared.Kind.{Kind}
use Rattle.gate_net.specs.Net.{IsKind, source_count}
use Rattle.gate_graph.specs.Circuit.{net_of}
use Rattle.ternary_sim.proofs.Loops.{source_known}
use Rattle.ternary_sim.proofs.reading.source_value.Goals as goal

pub bounds-sources-node : goal.bounds-sources-node
bounds-sources-node c =
    let P : Kind → Type 0 = λ kind. IsKind (net_of c.args.graph.now) c.args.node.0 kind in
    let within : (2 ≤ c.args.node.0) × (c.args.node.0 < 2 + source_count (net_of c.args.graph.now)) = c.well_formed-2.ensures.net.sources.only c.args.node.0 (subst P c.in-Source.is c.requires.kind) in
    omega (arith, within.0, within.1, c.requires.sources)

pub returns-in-Source : goal.returns-in-Source
returns-in-Source c e =
    let P : Kind → Type 0 = λ kind. IsKind (net_of c.args.graph.now) c.args.node.0 kind in
    let within : (2 ≤ c.args.node.0) × (c.args.node.0 < 2 + source_count (net_of c.args.graph.now)) = c.well_formed-2.ensures.net.sources.only c.args.node.0 (subst P c.in-Source.is c.requires.kind) in
    let below : c.args.node.0 - 2 < length c.args.sources.now = omega (arith, within.0, within.1, c.requires.sources) in
    c.known_value.ensures ∙ source_known c.args.node.0 c.args.sources.now _ (get_or_default c.args.sources.now (c.args.node.0 - 2) _ Unknown below)
