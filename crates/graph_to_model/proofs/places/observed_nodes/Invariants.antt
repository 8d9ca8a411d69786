use Rattle.std.proofs.Common.{◌≡◌, ◌++◌}
use Rattle.gate_graph.specs.Circuit.{net_of}
use Rattle.graph_to_model.proofs.places.observed_nodes.Given as goal

abbrev pub invariant-loop-node : goal.invariant-loop-node
invariant-loop-node l = (net_of l.graph).observed ≡ l.nodes.items ++ l.node-iterator
