use Rattle.std.proofs.Common.{◌∙◌}
use Rattle.gate_graph.specs.Circuit.{net_of}
use Rattle.graph_to_model.proofs.Making.{covers_are}
use Rattle.graph_to_model.proofs.net_model.covers_of.Goals as goal

pub returns : goal.returns
returns c = c.from_vec.ensures ∙ covers_are c.args.original.now (net_of c.args.graph.now) c.in_ok-names.names.items c.as_slice-7.result.now c.as_slice-4.result.now c.as_slice-6.result.now c.in_ok-covers.covers.items
    c.well_formed-2.ensures.net c.in_ok-names.ensures c.as_slice-7.ensures.value (c.as_slice-4.ensures.value ∙ c.in_ok-sources.ensures) (c.as_slice-6.ensures.value ∙ c.in_ok-observed.ensures) c.in_ok-covers.ensures
