use Rattle.std.proofs.Common.{List, ap, arith, length, map, sym, ℕ, ◌∙◌, ◌≡◌}
use Rattle.std.specs.Prelude.{slice_get}
use Rattle.std.proofs.lemmas.List.{length-map}
use Rattle.gate_graph.specs.Circuit.{live_nodes, net_of, pins_taken}
use Rattle.gate_net.specs.Net.{Net, wire_count}
use Rattle.joined_nets.proofs.Public.{live_below, live_driver}
use Rattle.rm_base.specs.declared.numbers.NodeId.{NodeId}
use Rattle.care_opt.specs.Inner.Standing.{CanGate}
use Rattle.care_opt.proofs.CareFit.{one_in}
use Rattle.care_opt.proofs.GatingAnds.{fits_made, gated_made, gates_count, gates_low, length_made, wires_made}
use Rattle.care_opt.proofs.Starting.{can_gate}
use Rattle.care_opt.proofs.gating.gated_graph.Goals as goal

pub add_gating-requires-clause-nodes : goal.add_gating-requires-clause-nodes
add_gating-requires-clause-nodes c = λ p x e.
    let at = ap (λ (l : List ℕ). slice_get l p) (sym (ap (λ (l : List NodeId). map (λ (n : NodeId). n.0) l) c.as_slice.ensures.value ∙ c.in_ok-nodes.ensures)) ∙ e in
    let low = live_below (net_of c.args.a.now) x (c.requires.share.first.observed_live x (p, at)) in
    let single = one_in (net_of c.args.b.now).observed c.requires.one in
    let can : CanGate (net_of c.args.a.now) (net_of c.args.b.now) = can_gate (net_of c.args.a.now) (net_of c.args.b.now) c.requires.share c.requires.order c.requires.other_order single.0 single.1 in
    let later = can.later in
    let size = ap (λ (n : Net). length n.nodes) c.in_ok-graph.ensures.net in
    omega (arith, low, later, size)

pub add_gating-requires-clause-care : goal.add_gating-requires-clause-care
add_gating-requires-clause-care c =
    let single = one_in (net_of c.args.b.now).observed c.requires.one in
    let can : CanGate (net_of c.args.a.now) (net_of c.args.b.now) = can_gate (net_of c.args.a.now) (net_of c.args.b.now) c.requires.share c.requires.order c.requires.other_order single.0 single.1 in
    let within = can.within in
    let is = c.care_gate-care.ensures in
    let size = ap (λ (n : Net). length n.nodes) c.in_ok-graph.ensures.net in
    omega (arith, within, is, size)

pub add_gating-requires-clause-fits : goal.add_gating-requires-clause-fits
add_gating-requires-clause-fits c =
    fits_made (net_of c.args.a.now) (net_of c.args.b.now) (net_of c.in_ok-graph.graph) (map (λ (n : NodeId). n.0) c.as_slice.result.now) c.care_gate-care.result.0 c.in_ok-graph.ensures.net
    (ap (λ (l : List NodeId). map (λ (n : NodeId). n.0) l) c.as_slice.ensures.value ∙ c.in_ok-nodes.ensures) c.care_gate-care.ensures c.requires.small c.requires.other_small

pub observe_all-requires-clause-live : goal.observe_all-requires-clause-live
observe_all-requires-clause-live c = λ p x e.
    live_driver (net_of c.add_gating.new.graph) x c.in_ok-gates.ensures.whole.no_gaps
    (gates_low (net_of c.args.a.now) (net_of c.args.b.now) (net_of c.in_ok-graph.graph) (map (λ (n : NodeId). n.0) c.as_slice.result.now) c.care_gate-care.result.0 c.in_ok-graph.ensures.net
    (ap (λ (l : List NodeId). map (λ (n : NodeId). n.0) l) c.as_slice.ensures.value ∙ c.in_ok-nodes.ensures) c.care_gate-care.ensures (net_of c.add_gating.new.graph) c.in_ok-gates.ensures.net
    (map (λ (n : NodeId). n.0) c.as_slice-2.result.now) (ap (λ (l : List NodeId). map (λ (n : NodeId). n.0) l) c.as_slice-2.ensures.value ∙ c.in_ok-gates.ensures.gates) p x e)

pub observe_all-requires-clause-pins : goal.observe_all-requires-clause-pins
observe_all-requires-clause-pins c =
    let wires = wires_made (net_of c.args.a.now) (net_of c.args.b.now) (net_of c.in_ok-graph.graph) (map (λ (n : NodeId). n.0) c.as_slice.result.now) c.care_gate-care.result.0 c.in_ok-graph.ensures.net
    (ap (λ (l : List NodeId). map (λ (n : NodeId). n.0) l) c.as_slice.ensures.value ∙ c.in_ok-nodes.ensures) c.care_gate-care.ensures (net_of c.add_gating.new.graph) c.in_ok-gates.ensures.net c.requires.small c.requires.other_small in
    let pins : pins_taken c.add_gating.new.graph ≡ wire_count (net_of c.add_gating.new.graph) = c.in_ok-gates.ensures.whole.pins in
    let count = gates_count c.as_slice-2.result.now c.as_slice.result.now (length (net_of c.in_ok-graph.graph).nodes) (ap (λ (l : List NodeId). map (λ (n : NodeId). n.0) l) c.as_slice-2.ensures.value ∙ c.in_ok-gates.ensures.gates) in
    let same = length-map c.as_slice.result.now (λ (n : NodeId). n.0) in
    let are = ap (λ (l : List ℕ). length l) (ap (λ (l : List NodeId). map (λ (n : NodeId). n.0) l) c.as_slice.ensures.value ∙ c.in_ok-nodes.ensures) in
    let few = c.requires.small.observed in
    omega (arith, wires, pins, count, same, are, few)

pub returns-clause-net : goal.returns-clause-net
returns-clause-net c =
    gated_made (net_of c.args.a.now) (net_of c.args.b.now) (net_of c.in_ok-graph.graph) (map (λ (n : NodeId). n.0) c.as_slice.result.now) c.care_gate-care.result.0 c.in_ok-graph.ensures.net
    (ap (λ (l : List NodeId). map (λ (n : NodeId). n.0) l) c.as_slice.ensures.value ∙ c.in_ok-nodes.ensures) c.care_gate-care.ensures (net_of c.add_gating.new.graph) c.in_ok-gates.ensures.net
    (map (λ (n : NodeId). n.0) c.as_slice-2.result.now) (net_of c.observe_all.new.graph) (ap (λ (l : List NodeId). map (λ (n : NodeId). n.0) l) c.as_slice-2.ensures.value ∙ c.in_ok-gates.ensures.gates) c.in_ok-observe_all.ensures.net

pub returns-clause-few : goal.returns-clause-few
returns-clause-few c =
    let wires = wires_made (net_of c.args.a.now) (net_of c.args.b.now) (net_of c.in_ok-graph.graph) (map (λ (n : NodeId). n.0) c.as_slice.result.now) c.care_gate-care.result.0 c.in_ok-graph.ensures.net
    (ap (λ (l : List NodeId). map (λ (n : NodeId). n.0) l) c.as_slice.ensures.value ∙ c.in_ok-nodes.ensures) c.care_gate-care.ensures (net_of c.add_gating.new.graph) c.in_ok-gates.ensures.net c.requires.small c.requires.other_small in
    let nodes = length_made (net_of c.args.a.now) (net_of c.args.b.now) (net_of c.in_ok-graph.graph) (map (λ (n : NodeId). n.0) c.as_slice.result.now) c.care_gate-care.result.0 c.in_ok-graph.ensures.net
    (ap (λ (l : List NodeId). map (λ (n : NodeId). n.0) l) c.as_slice.ensures.value ∙ c.in_ok-nodes.ensures) c.care_gate-care.ensures (net_of c.add_gating.new.graph) c.in_ok-gates.ensures.net c.requires.small c.requires.other_small in
    let pins : pins_taken c.add_gating.new.graph ≡ wire_count (net_of c.add_gating.new.graph) = c.in_ok-gates.ensures.whole.pins in
    let numbers : live_nodes c.add_gating.new.graph ≡ length (net_of c.add_gating.new.graph).nodes = c.in_ok-gates.ensures.whole.numbers in
    let count = gates_count c.as_slice-2.result.now c.as_slice.result.now (length (net_of c.in_ok-graph.graph).nodes) (ap (λ (l : List NodeId). map (λ (n : NodeId). n.0) l) c.as_slice-2.ensures.value ∙ c.in_ok-gates.ensures.gates) in
    let same = length-map c.as_slice.result.now (λ (n : NodeId). n.0) in
    let are = ap (λ (l : List ℕ). length l) (ap (λ (l : List NodeId). map (λ (n : NodeId). n.0) l) c.as_slice.ensures.value ∙ c.in_ok-nodes.ensures) in
    let few = c.requires.small.observed in
    let more = c.in_ok-observe_all.ensures.pins in
    let live = c.in_ok-observe_all.ensures.nodes in
    omega (arith, wires, nodes, pins, numbers, count, same, are, few, more, live)
