use Rattle.gate_graph.specs.Circuit.{net_of}
use Rattle.recursive_learning.proofs.Watches.{Around, UpTo}
use Rattle.recursive_learning.specs.Watching.{IsListedAt, StillLists}
use Rattle.recursive_learning.proofs.watch.Watch.list_changed.Given as goal

abbrev pub invariant-loop-entry : goal.invariant-loop-entry
invariant-loop-entry l = record {
  still : StillLists l.fn.self l.self;
  done : UpTo l.added l.entry-index (Around (net_of l.graph) (IsListedAt l.self));
}
