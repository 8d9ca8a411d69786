use Rattle.std.proofs.Common.{◌≡◌, ◌++◌, map}
use Rattle.gate_graph.specs.Inner.Search.{Marked}
use Rattle.gate_graph.proofs.searching.mark_unseen.Given as goal

abbrev pub invariant-loop-driver : goal.invariant-loop-driver
invariant-loop-driver l = record {
  all : l.initial.driver-iterator ≡ map (λ n. n.0) l.yielded ++ l.driver-iterator;
  marked : Marked (map (λ n. n.0) l.yielded) l.initial.seen l.seen l.initial.queue l.queue l.initial.end l.end;
}
