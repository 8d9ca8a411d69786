use Rattle.std.proofs.Common.{Some, map, ℕ, ◌++◌, ◌≡◌}
use Rattle.std.specs.Prelude.{slice_get}
use Rattle.recursive_learning.specs.Resting.{IsWatched}
use Rattle.recursive_learning.specs.Watching.{LeavesList}
use Rattle.rm_base.specs.declared.numbers.NodeId.{NodeId}
use Rattle.recursive_learning.proofs.watch.Watch.rest_around.Given as goal

abbrev pub invariant-loop-reader : goal.invariant-loop-reader
invariant-loop-reader l = record {
  all : l.initial.reader-iterator ≡ map (λ (d : NodeId). d.0) l.yielded ++ l.reader-iterator;
  leaves : LeavesList l.fn.self l.self;
  itself : IsWatched l.self.rests.entries l.fn.node.0 l.gate.0;
  done : (k : ℕ) (gate : NodeId) → slice_get l.yielded k ≡ Some gate → IsWatched l.self.rests.entries gate.0 l.gate.0;
}
