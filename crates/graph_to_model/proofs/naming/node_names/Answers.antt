use Rattle.gate_graph.specs.Circuit.{net_of}
use Rattle.graph_to_model.proofs.Steps.{observed_low}
use Rattle.graph_to_model.proofs.Making.{names_are}
use Rattle.graph_to_model.proofs.naming.node_names.Goals as goal

pub first_places-requires : goal.first_places-requires
first_places-requires c = observed_low (net_of c.args.graph.now) c.args.nodes.now _ c.well_formed-2.ensures.net c.requires.nodes c.node_bound-bound.ensures

pub returns : goal.returns
returns c = names_are c.args.original.now (net_of c.args.graph.now) c.args.sources.now c.args.observed.now c.args.nodes.now c.in_ok-places.places.items c.as_slice.result.now c.in_ok-prefix.prefix.items c.as_slice-2.result.now _ c.node_bound-bound.result
    c.requires.sources c.requires.observed c.requires.nodes c.node_bound-bound.ensures c.in_ok-places.ensures.places c.in_ok-places.ensures.count c.as_slice.ensures.value c.in_ok-prefix.ensures c.as_slice-2.ensures.value c.in_ok-names.ensures.count c.in_ok-names.ensures.each
