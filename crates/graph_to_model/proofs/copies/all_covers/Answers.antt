use Rattle.gate_graph.specs.Circuit.{net_of}
use Rattle.graph_to_model.proofs.Steps.{observed_low}
use Rattle.graph_to_model.proofs.copies.all_covers.Goals as goal

pub copies_beside-requires-clause-within : goal.copies_beside-requires-clause-within
copies_beside-requires-clause-within c = observed_low (net_of c.args.graph.now) c.args.nodes.now _ c.well_formed-2.ensures.net c.requires.nodes c.requires.names
