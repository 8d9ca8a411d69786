use Rattle.std.proofs.Common.{◌≡◌, ◌+◌, ◌++◌, map, length}
use Rattle.gate_graph.specs.Circuit.{net_of}
use Rattle.gate_graph.proofs.state.Graph.observed_at.Given as goal

abbrev pub invariant-loop-node : goal.invariant-loop-node
invariant-loop-node l = record {
  all : (net_of l.self).observed ≡ map (λ n. n.0) l.yielded ++ l.node-iterator;
  count : l.left + length l.yielded ≡ l.at;
}
