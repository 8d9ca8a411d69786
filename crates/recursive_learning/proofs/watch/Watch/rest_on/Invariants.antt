use Rattle.std.proofs.Common.{ℕ}
use Rattle.gate_graph.specs.Circuit.{net_of}
use Rattle.recursive_learning.proofs.Watches.{Around, UpTo}
use Rattle.recursive_learning.specs.Resting.{IsWatched}
use Rattle.recursive_learning.specs.Watching.{LeavesList}
use Rattle.recursive_learning.proofs.watch.Watch.rest_on.Given as goal

abbrev pub invariant-loop-entry : goal.invariant-loop-entry
invariant-loop-entry l = record {
  leaves : LeavesList l.fn.self l.self;
  done : UpTo l.added l.entry-index (Around (net_of l.graph) (λ (z : ℕ). IsWatched l.self.rests.entries z l.gate.0));
}
