use Rattle.std.proofs.Common.{length, ◌≡◌}
use Rattle.gate_graph.specs.Circuit.{net_of}
use Rattle.local_evaluation.specs.Reaching.{search_left}
use Rattle.ternary_sim.proofs.Spreading.{Spreads}
use Rattle.ternary_sim.proofs.region.mark_region.Given as goal

abbrev pub invariant-loop-node : goal.invariant-loop-node
invariant-loop-node l = record {
  spread : Spreads (net_of l.question.graph.now) l.question.fault l.marks l.waiting;
  size : length l.marks ≡ length l.initial.marks;
  room : length l.waiting ≡ length l.initial.waiting;
}

abbrev pub decreases-loop-node : goal.decreases-loop-node
decreases-loop-node l = search_left l.marks l.waiting
