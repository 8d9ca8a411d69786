use Rattle.std.proofs.Common.{◌≡◌, ◌++◌, drop}
use Rattle.gate_graph.specs.Circuit.{net_of}
use Rattle.graph_to_model.specs.Inner.Making.{covers_by}
use Rattle.graph_to_model.proofs.gates.gate_covers.Given as goal

abbrev pub invariant-loop-number : goal.invariant-loop-number
invariant-loop-number l = l.covers.items ++ covers_by l.names l.number (drop l.number (net_of l.graph).nodes) ≡ covers_by l.names 0 (net_of l.graph).nodes
