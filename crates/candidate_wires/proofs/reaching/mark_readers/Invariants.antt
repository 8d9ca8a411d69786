use Rattle.std.proofs.Common.{Some, length, map, ℕ, ◌++◌, ◌≡◌}
use Rattle.std.specs.Prelude.{slice_get}
use Rattle.gate_graph.specs.Circuit.{net_of}
use Rattle.gate_graph.specs.Search.{IsSeen}
use Rattle.candidate_wires.proofs.reaching.mark_readers.Given as goal
use Rattle.rm_base.specs.declared.numbers.NodeId.{NodeId}
use Rattle.refutation.specs.Reaching.{MarksSome}

abbrev pub invariant-loop-reader : goal.invariant-loop-reader
invariant-loop-reader l = record {
  all : l.initial.reader-iterator ≡ map (λ (d : NodeId). d.0) l.yielded ++ l.reader-iterator;
  marks : MarksSome (net_of l.graph) l.fn.node.0 l.initial.reached l.reached l.initial.worklist l.worklist;
  done : (k : ℕ) (gate : NodeId) → slice_get l.yielded k ≡ Some gate → IsSeen l.reached gate.0;
  size : length l.reached ≡ length l.initial.reached;
  room : length l.worklist ≡ length l.initial.worklist;
}
