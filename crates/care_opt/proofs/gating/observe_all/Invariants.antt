use Rattle.std.proofs.Common.{drop, length, map, ◌++◌, ◌+◌, ◌≡◌, ◌≤◌}
use Rattle.gate_graph.specs.Circuit.{live_nodes, net_of, pins_taken}
use Rattle.care_opt.proofs.gating.observe_all.Given as goal

abbrev pub invariant-loop-at : goal.invariant-loop-at
invariant-loop-at l = record {
  nodes : (net_of l.graph).nodes ≡ (net_of l.initial.graph).nodes;
  seen : (net_of l.graph).observed ++ map (λ n. n.0) (drop l.at l.nodes) ≡ (net_of l.initial.graph).observed ++ map (λ n. n.0) l.nodes;
  pins : pins_taken l.graph ≡ pins_taken l.initial.graph + l.at;
  live : live_nodes l.graph ≡ live_nodes l.initial.graph;
  most : l.at ≤ length l.nodes;
}
