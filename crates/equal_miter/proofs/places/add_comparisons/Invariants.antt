use Rattle.std.proofs.Common.{drop, length, map, ◌++◌, ◌≡◌, ◌≤◌}
use Rattle.gate_graph.specs.Circuit.{net_of}
use Rattle.joined_nets.specs.Growing.{IsWhole, live, with_nodes}
use Rattle.equal_miter.specs.Miter.{comparisons, differences}
use Rattle.equal_miter.proofs.places.add_comparisons.Given as goal

abbrev pub invariant-loop-at : goal.invariant-loop-at
invariant-loop-at l = record {
  whole : IsWhole l.graph;
  longer : length (net_of l.initial.graph).nodes ≤ length (net_of l.graph).nodes;
  left : with_nodes (net_of l.graph) (live (comparisons (length (net_of l.graph).nodes) (map (λ n. n.0) (drop l.at l.xs)) (map (λ n. n.0) (drop l.at l.ys)))) ≡ with_nodes (net_of l.initial.graph) (live (comparisons (length (net_of l.initial.graph).nodes) (map (λ n. n.0) l.xs) (map (λ n. n.0) l.ys)));
  tops : map (λ n. n.0) l.tops.items ++ differences (length (net_of l.graph).nodes) (map (λ n. n.0) (drop l.at l.xs)) (map (λ n. n.0) (drop l.at l.ys)) ≡ differences (length (net_of l.initial.graph).nodes) (map (λ n. n.0) l.xs) (map (λ n. n.0) l.ys);
}
