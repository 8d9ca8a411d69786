use Rattle.std.proofs.Common.{List, ap, map, subst, sym, ◌∙◌}
use Rattle.gate_graph.specs.Circuit.{net_of}
use Rattle.gate_net.specs.Net.{Net}
use Rattle.joined_nets.specs.Growing.{Fits}
use Rattle.rm_base.specs.declared.numbers.NodeId.{NodeId}
use Rattle.care_opt.proofs.Going.{none_of}
use Rattle.care_opt.proofs.Looking.{drivers_below, gate_kind, is_live, is_there, made_node, nothing, one_driver, two_drivers}
use Rattle.care_opt.proofs.extracting.copy_main.Goals as goal

pub new_drivers-requires : goal.new_drivers-requires
new_drivers-requires c = is_live (net_of c.args.graph.now) c.args.node.0 c.in-Some.kind c.in-Some.ensures

pub add_last-requires-clause-kind : goal.add_last-requires-clause-kind
add_last-requires-clause-kind c = gate_kind (net_of c.args.graph.now) c.args.node.0 c.in-Some.kind c.in-Some.ensures (c.requires.gate (is_there (net_of c.args.graph.now) c.args.node.0 c.in-Some.kind c.in-Some.ensures))

pub add_last-requires-clause-one : goal.add_last-requires-clause-one
add_last-requires-clause-one c = λ e.
    one_driver (net_of c.args.graph.now) c.args.node.0 (net_of c.args.small.now) c.args.numbers.now c.in-Some.kind c.in-Some.ensures c.as_slice.result.now
    (ap (λ (l : List NodeId). map (λ (n : NodeId). n.0) l) c.as_slice.ensures.value ∙ c.in_ok-drivers.ensures) c.well_formed-2.ensures.net e

pub add_last-requires-clause-two : goal.add_last-requires-clause-two
add_last-requires-clause-two c = λ e.
    two_drivers (net_of c.args.graph.now) c.args.node.0 (net_of c.args.small.now) c.args.numbers.now c.in-Some.kind c.in-Some.ensures c.as_slice.result.now
    (ap (λ (l : List NodeId). map (λ (n : NodeId). n.0) l) c.as_slice.ensures.value ∙ c.in_ok-drivers.ensures) c.well_formed-2.ensures.net e

pub add_last-requires-clause-drivers : goal.add_last-requires-clause-drivers
add_last-requires-clause-drivers c =
    drivers_below (net_of c.args.graph.now) c.args.node.0 (net_of c.args.small.now) c.args.numbers.now c.in-Some.kind c.in-Some.ensures c.as_slice.result.now
    (ap (λ (l : List NodeId). map (λ (n : NodeId). n.0) l) c.as_slice.ensures.value ∙ c.in_ok-drivers.ensures) c.requires.lower

pub add_last-requires-clause-fits : goal.add_last-requires-clause-fits
add_last-requires-clause-fits c =
    subst (λ (n : Net). Fits n)
    (sym (made_node (net_of c.args.graph.now) c.args.node.0 (net_of c.args.small.now) c.args.numbers.now c.in-Some.kind c.in-Some.ensures c.as_slice.result.now
    (ap (λ (l : List NodeId). map (λ (n : NodeId). n.0) l) c.as_slice.ensures.value ∙ c.in_ok-drivers.ensures)))
    c.requires.fits

pub returns-clause-net : goal.returns-clause-net
returns-clause-net c =
    c.in_ok-_number.ensures.net
    ∙ made_node (net_of c.args.graph.now) c.args.node.0 (net_of c.args.small.now) c.args.numbers.now c.in-Some.kind c.in-Some.ensures c.as_slice.result.now
    (ap (λ (l : List NodeId). map (λ (n : NodeId). n.0) l) c.as_slice.ensures.value ∙ c.in_ok-drivers.ensures)

pub returns-in_default-clause-net : goal.returns-in_default-clause-net
returns-in_default-clause-net c = nothing (net_of c.args.graph.now) c.args.node.0 (net_of c.args.small.now) c.args.numbers.now (sym (sym c.kind.ensures ∙ none_of c.kind.result c.in_default.not-Some))
