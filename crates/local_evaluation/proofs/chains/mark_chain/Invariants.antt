use Rattle.std.proofs.Common.{length, ◌≡◌}
use Rattle.gate_graph.specs.Circuit.{net_of}
use Rattle.local_evaluation.proofs.Sites.{Chaining}
use Rattle.local_evaluation.proofs.chains.mark_chain.Given as goal

abbrev pub invariant-loop-step : goal.invariant-loop-step
invariant-loop-step l = record { chaining : Chaining (net_of l.graph) l.fn.gate.0 l.marks l.at.0 l._step; size : length l.marks ≡ length l.fn.marks }
