use Rattle.std.proofs.Common.{List, [], ap, arith, length, map, subst, sym, ℕ, ◌<◌, ◌∙◌, ◌∷◌}
use Rattle.std.specs.Prelude.{Option, slice_get}
use Rattle.gate_graph.specs.Circuit.{net_of}
use Rattle.gate_net.specs.Net.{Node}
use Rattle.rm_base.specs.declared.numbers.NodeId.{NodeId}
use Rattle.joined_nets.specs.Growing.{Fits, with_nodes}
use Rattle.joined_nets.specs.Joined.{moved}
use Rattle.joined_nets.proofs.Gates.{drivers_below, gate_kind, moved_node, one_driver, two_drivers}
use Rattle.joined_nets.proofs.copying.copy_gate.Goals as goal

pub moved_all-requires : goal.moved_all-requires
moved_all-requires c = record {
  small = λ p x e.
      let lt : x < c.args.node.0 = c.requires.order.order c.args.node.0 p x (ap (λ (l : List ℕ). slice_get l p) (sym c.gate_inputs.ensures.drivers) ∙ e) in
      let small = c.requires.small in
      omega (arith, lt, small);
}

pub add_last-requires-clause-kind : goal.add_last-requires-clause-kind
add_last-requires-clause-kind c = gate_kind (net_of c.args.from.now) c.args.node.0 c.in-Some.kind c.requires.gate c.in-Some.ensures

pub add_last-requires-clause-one : goal.add_last-requires-clause-one
add_last-requires-clause-one c = λ e.
    one_driver (net_of c.args.from.now) c.args.node.0 c.in-Some.kind c.requires.gate c.in-Some.ensures c.args.first c.args.count c.as_slice.result.now
    (ap (λ (l : List NodeId). map (λ (n : NodeId). n.0) l) c.as_slice.ensures.value ∙ (c.in_ok-drivers.ensures ∙ ap (λ (l : List ℕ). map (moved c.args.first c.args.count) l) c.gate_inputs.ensures.drivers)) c.well_formed-2.ensures.net e

pub add_last-requires-clause-two : goal.add_last-requires-clause-two
add_last-requires-clause-two c = λ e.
    two_drivers (net_of c.args.from.now) c.args.node.0 c.in-Some.kind c.requires.gate c.in-Some.ensures c.args.first c.args.count c.as_slice.result.now
    (ap (λ (l : List NodeId). map (λ (n : NodeId). n.0) l) c.as_slice.ensures.value ∙ (c.in_ok-drivers.ensures ∙ ap (λ (l : List ℕ). map (moved c.args.first c.args.count) l) c.gate_inputs.ensures.drivers)) c.well_formed-2.ensures.net e

pub add_last-requires-clause-drivers : goal.add_last-requires-clause-drivers
add_last-requires-clause-drivers c =
    drivers_below (net_of c.args.from.now) c.args.node.0 c.args.first c.args.count (length (net_of c.args.graph.now).nodes) c.as_slice.result.now c.requires.order.order c.requires.first c.requires.next
    (ap (λ (l : List NodeId). map (λ (n : NodeId). n.0) l) c.as_slice.ensures.value ∙ (c.in_ok-drivers.ensures ∙ ap (λ (l : List ℕ). map (moved c.args.first c.args.count) l) c.gate_inputs.ensures.drivers))

pub add_last-requires-clause-fits : goal.add_last-requires-clause-fits
add_last-requires-clause-fits c =
    subst (λ (o : Option Node). Fits (with_nodes (net_of c.args.graph.now) (o ∷ [])))
    (moved_node (net_of c.args.from.now) c.args.node.0 c.in-Some.kind c.requires.gate c.in-Some.ensures c.args.first c.args.count c.as_slice.result.now
    (ap (λ (l : List NodeId). map (λ (n : NodeId). n.0) l) c.as_slice.ensures.value ∙ (c.in_ok-drivers.ensures ∙ ap (λ (l : List ℕ). map (moved c.args.first c.args.count) l) c.gate_inputs.ensures.drivers)))
    c.requires.fits

pub returns-clause-net : goal.returns-clause-net
returns-clause-net c =
    c.in_ok-_number.ensures.net
    ∙ ap (λ (o : Option Node). with_nodes (net_of c.args.graph.now) (o ∷ []))
    (sym (moved_node (net_of c.args.from.now) c.args.node.0 c.in-Some.kind c.requires.gate c.in-Some.ensures c.args.first c.args.count c.as_slice.result.now
    (ap (λ (l : List NodeId). map (λ (n : NodeId). n.0) l) c.as_slice.ensures.value ∙ (c.in_ok-drivers.ensures ∙ ap (λ (l : List ℕ). map (moved c.args.first c.args.count) l) c.gate_inputs.ensures.drivers))))
