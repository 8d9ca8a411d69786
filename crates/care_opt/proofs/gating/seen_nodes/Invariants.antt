use Rattle.std.proofs.Common.{map, ◌++◌, ◌≡◌}
use Rattle.gate_graph.specs.Circuit.{net_of}
use Rattle.care_opt.proofs.gating.seen_nodes.Given as goal

abbrev pub invariant-loop-node : goal.invariant-loop-node
invariant-loop-node l = map (λ n. n.0) l.nodes.items ++ l.node-iterator ≡ (net_of l.graph).observed
