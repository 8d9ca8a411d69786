use Rattle.std.proofs.Common.{Some, length, map, ℕ, ◌++◌, ◌≡◌}
use Rattle.std.specs.Prelude.{slice_get}
use Rattle.gate_graph.specs.Search.{IsSeen}
use Rattle.implications.proofs.Rising.{Raises}
use Rattle.implications.proofs.tallies.touch.Given as goal
use Rattle.implications.specs.Inner.Rises.{rise_by}
use Rattle.refutation.specs.FactSets.{held_by}
use Rattle.rm_base.specs.declared.numbers.NodeId.{NodeId}

abbrev pub invariant-loop-reader : goal.invariant-loop-reader
invariant-loop-reader l = record {
  all : l.initial.reader-iterator ≡ map (λ (d : NodeId). d.0) l.yielded ++ l.reader-iterator;
  kept : (z : ℕ) → IsSeen l.fn.worklist z → IsSeen l.worklist z;
  itself : IsSeen l.worklist l.fn.node.0;
  done : (k : ℕ) (gate : NodeId) → slice_get l.yielded k ≡ Some gate → IsSeen l.worklist gate.0;
  size : length l.worklist ≡ length l.fn.worklist;
  raised : Raises (rise_by (held_by l.facts) l.fn.node.0 l.fn.fact) l.fn.tallies l.tallies (map (λ (d : NodeId). d.0) l.yielded);
}
