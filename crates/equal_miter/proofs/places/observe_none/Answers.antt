use Rattle.std.proofs.Common.{ap, arith, length, map, subst, sym, ◌∙◌, ◌≡◌}
use Rattle.std.specs.Prelude.{Some}
use Rattle.gate_graph.specs.Circuit.{net_of, pins_taken}
use Rattle.gate_graph.specs.Holds.{pins_held}
use Rattle.gate_net.specs.Net.{Net, wire_count}
use Rattle.rm_base.specs.declared.numbers.NodeId.{NodeId}
use Rattle.joined_nets.specs.Growing.{Fits}
use Rattle.equal_miter.specs.Miter.{not_gate, or_gate}
use Rattle.joined_nets.proofs.Public.{live_driver, one_longer}
use Rattle.equal_miter.proofs.Pairs.{first_fits, last_fits, last_made, observed_after, one_below, second_number}
use Rattle.equal_miter.proofs.places.observe_none.Goals as goal

pub add_last-requires-clause-fits : goal.add_last-requires-clause-fits
add_last-requires-clause-fits c = first_fits (net_of c.args.graph.now) (or_gate (map (λ (n : NodeId). n.0) c.args.nodes.now)) (not_gate (length (net_of c.args.graph.now).nodes)) c.requires.fits

pub add_last-requires-2-clause-drivers : goal.add_last-requires-2-clause-drivers
add_last-requires-2-clause-drivers c = λ d among.
    let size = one_longer (net_of c.args.graph.now) (net_of c.add_last.new.graph) (Some (or_gate (map (λ (n : NodeId). n.0) c.args.nodes.now))) c.in_ok-some.ensures.net in
    let is = c.in_ok-some.ensures.number in
    one_below d c.in_ok-some.some.0 (length (net_of c.add_last.new.graph).nodes) (omega (arith, size, is)) among

pub add_last-requires-2-clause-fits : goal.add_last-requires-2-clause-fits
add_last-requires-2-clause-fits c = last_fits (net_of c.args.graph.now) (net_of c.add_last.new.graph) (map (λ (n : NodeId). n.0) c.args.nodes.now) c.in_ok-some.some.0 c.in_ok-some.ensures.net c.in_ok-some.ensures.number c.requires.fits

pub observe-requires-clause-node : goal.observe-requires-clause-node
observe-requires-clause-node c =
    let size = one_longer (net_of c.add_last.new.graph) (net_of c.add_last-2.new.graph) (Some (not_gate c.in_ok-some.some.0)) c.in_ok-none.ensures.net in
    let is = c.in_ok-none.ensures.number in
    live_driver (net_of c.add_last-2.new.graph) c.in_ok-none.none.0 c.in_ok-none.ensures.whole.no_gaps (omega (arith, size, is))

pub observe-requires-clause-pins : goal.observe-requires-clause-pins
observe-requires-clause-pins c =
    let fits : Fits (net_of c.add_last-2.new.graph) =
    subst (λ (n : Net). Fits n) (sym (last_made (net_of c.args.graph.now) (net_of c.add_last.new.graph) (net_of c.add_last-2.new.graph) (map (λ (n : NodeId). n.0) c.args.nodes.now) c.in_ok-some.some.0 c.in_ok-some.ensures.net c.in_ok-some.ensures.number c.in_ok-none.ensures.net)) c.requires.fits in
    let few = fits.pins in
    let taken : pins_taken c.add_last-2.new.graph ≡ wire_count (net_of c.add_last-2.new.graph) = c.in_ok-none.ensures.whole.pins in
    omega (arith, few, taken)

pub returns-clause-net : goal.returns-clause-net
returns-clause-net c =
    observed_after (net_of c.args.graph.now) (net_of c.add_last-2.new.graph) (net_of c.observe.new.self) (map (λ (n : NodeId). n.0) c.args.nodes.now) c.in_ok-none.none.0
    (last_made (net_of c.args.graph.now) (net_of c.add_last.new.graph) (net_of c.add_last-2.new.graph) (map (λ (n : NodeId). n.0) c.args.nodes.now) c.in_ok-some.some.0 c.in_ok-some.ensures.net c.in_ok-some.ensures.number c.in_ok-none.ensures.net)
    (second_number (net_of c.args.graph.now) (net_of c.add_last.new.graph) (or_gate (map (λ (n : NodeId). n.0) c.args.nodes.now)) (not_gate c.in_ok-some.some.0) c.in_ok-some.ensures.net c.in_ok-none.none.0 c.in_ok-none.ensures.number)
    c.in_ok-observe.ensures.observed

pub returns-clause-number : goal.returns-clause-number
returns-clause-number c = second_number (net_of c.args.graph.now) (net_of c.add_last.new.graph) (or_gate (map (λ (n : NodeId). n.0) c.args.nodes.now)) (not_gate c.in_ok-some.some.0) c.in_ok-some.ensures.net c.in_ok-none.none.0 c.in_ok-none.ensures.number

pub returns-clause-live : goal.returns-clause-live
returns-clause-live c =
    let numbers = c.in_ok-none.ensures.whole.numbers in
    let same = c.observe.ensures.nodes in
    let nodes = ap (λ (n : Net). length n.nodes) c.in_ok-observe.ensures.observed in
    omega (arith, numbers, same, nodes)

pub returns-clause-held : goal.returns-clause-held
returns-clause-held c =
    let taken : pins_taken c.add_last-2.new.graph ≡ wire_count (net_of c.add_last-2.new.graph) = c.in_ok-none.ensures.whole.pins in
    let none : pins_held c.add_last-2.new.graph ≡ 0 = omega (arith, taken) in
    c.in_ok-observe.ensures.held ∙ none
