use Rattle.std.proofs.Common.{drop, length, map, ◌+◌, ◌≡◌, ◌≤◌}
use Rattle.gate_graph.specs.Circuit.{net_of}
use Rattle.joined_nets.specs.Growing.{IsWhole, with_nodes}
use Rattle.joined_nets.specs.Joined.{node_moved}
use Rattle.joined_nets.proofs.copying.add_gates.Given as goal

abbrev pub invariant-loop-number : goal.invariant-loop-number
invariant-loop-number l = record {
  whole : IsWhole l.graph;
  after : l.first ≤ l.number;
  next : length (net_of l.graph).nodes + l.first ≡ l.count + l.number;
  left : with_nodes (net_of l.graph) (map (node_moved l.first l.count) (drop l.number (net_of l.from).nodes)) ≡ with_nodes (net_of l.initial.graph) (map (node_moved l.first l.count) (drop l.first (net_of l.from).nodes));
}
