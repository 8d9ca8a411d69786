use Rattle.std.proofs.Common.{drop, length, map, ◌++◌, ◌≡◌, ◌≤◌}
use Rattle.gate_graph.specs.Circuit.{net_of}
use Rattle.joined_nets.specs.Growing.{IsWhole, live, with_nodes}
use Rattle.care_opt.specs.Gated.{gates_by, numbers_from}
use Rattle.care_opt.proofs.gating.add_gating.Given as goal

abbrev pub invariant-loop-at : goal.invariant-loop-at
invariant-loop-at l = record {
  whole : IsWhole l.graph;
  longer : length (net_of l.initial.graph).nodes ≤ length (net_of l.graph).nodes;
  left : with_nodes (net_of l.graph) (live (gates_by l.care.0 (map (λ n. n.0) (drop l.at l.nodes)))) ≡ with_nodes (net_of l.initial.graph) (live (gates_by l.care.0 (map (λ n. n.0) l.nodes)));
  made : map (λ n. n.0) l.gates.items ++ numbers_from (length (net_of l.graph).nodes) (map (λ n. n.0) (drop l.at l.nodes)) ≡ numbers_from (length (net_of l.initial.graph).nodes) (map (λ n. n.0) l.nodes);
}
