use Rattle.std.proofs.Common.{length, map, ◌≡◌}
use Rattle.gate_graph.specs.Circuit.{net_of}
use Rattle.ternary_sim.specs.Marks.{known_source}
use Rattle.ternary_sim.specs.Inner.Sims.{IsMarked, AreRead}
use Rattle.ternary_sim.proofs.reading.read_all.Given as goal

abbrev pub invariant-loop-node : goal.invariant-loop-node
invariant-loop-node l = record {
  read : AreRead (net_of l.graph) l.fault (known_source l.sources) (map (λ n. n.0) l.order) l.marks.items l.node-index;
  marked : IsMarked (map (λ n. n.0) l.order) l.marks.items;
  size : length l.marks.items ≡ length l.initial.marks.items;
}
