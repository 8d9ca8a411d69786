use Rattle.std.proofs.Common.{Some, length, ℕ, ◌<◌, ◌≡◌}
use Rattle.std.specs.Prelude.{slice_get}
use Rattle.gate_graph.specs.Search.{IsSeen}
use Rattle.recursive_learning.proofs.good_nodes.list_nodes.Given as goal
use Rattle.rm_base.specs.declared.numbers.NodeId.{NodeId}

abbrev pub invariant-loop-node : goal.invariant-loop-node
invariant-loop-node l = record {
  done : (k : ℕ) (n : NodeId) → k < l.node-index → slice_get l.nodes k ≡ Some n → n.0 < length l.listed → IsSeen l.listed n.0;
  size : length l.listed ≡ length l.initial.listed;
}
