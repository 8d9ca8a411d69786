use Rattle.std.proofs.Common.{length, ◌≡◌}
use Rattle.gate_graph.specs.Circuit.{net_of}
use Rattle.local_evaluation.proofs.reaching.mark_reached.Given as goal
use Rattle.local_evaluation.specs.Reaching.{Searches, search_left}

abbrev pub invariant-loop-node : goal.invariant-loop-node
invariant-loop-node l = record {
  search : Searches (net_of l.graph) l.fn.gate.0 l.reached l.worklist;
  size : length l.reached ≡ length l.initial.reached;
  room : length l.worklist ≡ length l.initial.worklist;
}

abbrev pub decreases-loop-node : goal.decreases-loop-node
decreases-loop-node l = search_left l.reached l.worklist
