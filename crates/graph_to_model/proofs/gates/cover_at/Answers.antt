use Rattle.gate_graph.specs.Circuit.{net_of}
use Rattle.graph_to_model.proofs.Steps.{live_of}
use Rattle.graph_to_model.proofs.gates.cover_at.Goals as goal

pub driver_names-requires-clause-live : goal.driver_names-requires-clause-live
driver_names-requires-clause-live c = live_of (net_of c.args.graph.now) c.args.node.0 c.in-Some.kind c.in-Some.ensures
