use Rattle.gate_graph.specs.Circuit.{net_of}
use Rattle.recursive_learning.proofs.Refutes.{Deepening}
use Rattle.recursive_learning.specs.Inner.Watching.{IsWatching, Lengthens}
use Rattle.refutation.specs.FactSets.{held_by}
use Rattle.recursive_learning.proofs.refuting.deepen.Given as goal

abbrev pub invariant-loop-level : goal.invariant-loop-level
invariant-loop-level l = record {
  deepening : Deepening (net_of l.question.graph.now) l.question.fault l.level l.initial.engine l.engine l.initial.facts l.facts;
  watching : IsWatching (net_of l.question.graph.now) l.question.fault (held_by l.facts) l.watch;
  lengthens : Lengthens l.fn.watch l.watch;
}
