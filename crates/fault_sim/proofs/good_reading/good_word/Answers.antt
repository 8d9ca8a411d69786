use Rattle.std.proofs.Common.{◌+◌, ◌<◌, ◌≤◌, ◌∙◌, sym, arith}
use Rattle.gate_net.specs.declared.Kind.TheVariants.{Source}
use Rattle.gate_net.specs.Net.{IsKind, source_count}
use Rattle.gate_graph.specs.Circuit.{net_of}
use Rattle.fault_sim.proofs.Gates.{gate_is, input_is}
use Rattle.fault_sim.proofs.good_reading.good_word.Goals as goal

pub bounds-words-node : goal.bounds-words-node
bounds-words-node c =
    let is : IsKind (net_of c.args.graph.now) c.args.node.0 Source = input_is (net_of c.args.graph.now) c.args.node.0 c.kind.result c.in-Some.kind c.in-Some.is c.kind.ensures (sym c.in-Input.is ∙ c.family.ensures) in
    let within : (2 ≤ c.args.node.0) × (c.args.node.0 < 2 + source_count (net_of c.args.graph.now)) = c.well_formed-2.ensures.net.sources.only c.args.node.0 is in
    omega (arith, within.0, within.1, c.requires.sources)

pub gate_inputs-requires-in-Junction-false : goal.gate_inputs-requires-in-Junction-false
gate_inputs-requires-in-Junction-false c = gate_is (net_of c.args.graph.now) c.args.node.0 c.kind.result c.in-Some.kind _ c.in-Some.is c.kind.ensures (sym c.in-Junction-false.is ∙ c.family.ensures) tt

pub gate_inputs-requires : goal.gate_inputs-requires
gate_inputs-requires c = gate_is (net_of c.args.graph.now) c.args.node.0 c.kind.result c.in-Some.kind _ c.in-Some.is c.kind.ensures (sym c.in-Junction-true.is ∙ c.family.ensures) tt

pub gate_inputs-requires-in-Parity : goal.gate_inputs-requires-in-Parity
gate_inputs-requires-in-Parity c = gate_is (net_of c.args.graph.now) c.args.node.0 c.kind.result c.in-Some.kind _ c.in-Some.is c.kind.ensures (sym c.in-Parity.is ∙ c.family.ensures) tt
