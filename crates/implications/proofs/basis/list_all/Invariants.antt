use Rattle.std.proofs.Common.{Some, length, ℕ, ◌<◌, ◌≡◌}
use Rattle.std.specs.Prelude.{slice_get}
use Rattle.gate_graph.specs.Search.{IsSeen}
use Rattle.implications.proofs.basis.list_all.Given as goal
use Rattle.rm_base.specs.declared.numbers.NodeId.{NodeId}

abbrev pub invariant-loop-node : goal.invariant-loop-node
invariant-loop-node l = record {
  all : (k : ℕ) (n : NodeId) → k < l.node-index → slice_get l.nodes k ≡ Some n → IsSeen l.worklist n.0;
  kept : (z : ℕ) → IsSeen l.initial.worklist z → IsSeen l.worklist z;
  size : length l.worklist ≡ length l.initial.worklist;
}
