use Rattle.std.proofs.Common.{[], ap, arith, length, map, sym, ℕ, ◌+◌, ◌∙◌, ◌∷◌, ◌≡◌}
use Rattle.std.specs.Prelude.{Some}
use Rattle.std.proofs.lemmas.List.{length-map}
use Rattle.gate_graph.specs.Circuit.{live_nodes, net_of, pins_taken}
use Rattle.gate_net.specs.Net.{Node, wire_count}
use Rattle.rm_base.specs.declared.numbers.NodeId.{NodeId}
use Rattle.joined_nets.proofs.Appended.{appended, is_next, live_driver, whole_next}
use Rattle.joined_nets.proofs.Growing.{length_with, wires_one}
use Rattle.joined_nets.proofs.appending.add_last.Goals as goal

pub add_gate-requires-clause-drivers : goal.add_gate-requires-clause-drivers
add_gate-requires-clause-drivers c = λ d among. live_driver (net_of c.args.graph.now) d c.requires.whole.no_gaps (c.requires.drivers d among)

pub add_gate-requires-clause-pins : goal.add_gate-requires-clause-pins
add_gate-requires-clause-pins c =
    let n : Node = record { kind = c.args.kind; drivers = map (λ (i : NodeId). i.0) c.args.drivers.now } in
    let one = wires_one (net_of c.args.graph.now) n in
    let size : length n.drivers ≡ length c.args.drivers.now = length-map c.args.drivers.now (λ (i : NodeId). i.0) in
    let taken : pins_taken c.args.graph.now ≡ wire_count (net_of c.args.graph.now) = c.requires.whole.pins in
    let few = c.requires.fits.pins in
    omega (arith, one, size, taken, few)

pub add_gate-requires-clause-nodes : goal.add_gate-requires-clause-nodes
add_gate-requires-clause-nodes c =
    let n : Node = record { kind = c.args.kind; drivers = map (λ (i : NodeId). i.0) c.args.drivers.now } in
    let more = length_with (net_of c.args.graph.now) (Some n ∷ []) in
    let numbers : live_nodes c.args.graph.now ≡ length (net_of c.args.graph.now).nodes = c.requires.whole.numbers in
    let few = c.requires.fits.nodes in
    omega (arith, more, numbers, few)

pub returns-clause-net : goal.returns-clause-net
returns-clause-net c =
    let n : Node = record { kind = c.args.kind; drivers = map (λ (i : NodeId). i.0) c.args.drivers.now } in
    appended (net_of c.args.graph.now) (net_of c.add_gate.new.self) n c.in_ok-node.node.0 c.requires.whole.no_gaps c.well_formed-2.ensures.net.canonical c.in_ok-node.ensures.made

pub returns-clause-number : goal.returns-clause-number
returns-clause-number c =
    let n : Node = record { kind = c.args.kind; drivers = map (λ (i : NodeId). i.0) c.args.drivers.now } in
    is_next (net_of c.args.graph.now) (net_of c.add_gate.new.self) n c.in_ok-node.node.0 c.requires.whole.no_gaps c.well_formed-2.ensures.net.canonical c.in_ok-node.ensures.made

pub returns-clause-whole : goal.returns-clause-whole
returns-clause-whole c =
    let n : Node = record { kind = c.args.kind; drivers = map (λ (i : NodeId). i.0) c.args.drivers.now } in
    let size : length n.drivers ≡ length c.args.drivers.now = length-map c.args.drivers.now (λ (i : NodeId). i.0) in
    whole_next c.args.graph.now c.add_gate.new.self n c.in_ok-node.node.0 c.requires.whole c.well_formed-2.ensures.net.canonical c.in_ok-node.ensures.made
    (c.in_ok-node.ensures.pins ∙ ap (λ (i : ℕ). pins_taken c.args.graph.now + i) (sym size)) c.in_ok-node.ensures.nodes
