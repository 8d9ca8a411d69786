use Rattle.gate_graph.specs.Circuit.{net_of}
use Rattle.std.proofs.Common.{◌≡◌, ◌+◌}
use Rattle.fault_sim.specs.Observing.{AreObservabilities}
use Rattle.closing_pass.specs.Inner.Trying.{HasTriedBefore}
use Rattle.closing_pass.proofs.trying.try_on_each.Given as goal

abbrev pub invariant-loop-place : goal.invariant-loop-place
invariant-loop-place l = record {
  tried : HasTriedBefore (net_of l.graph) l.kept l.first (l.first + l.count) l.faults l.place l.initial.found.items l.found.items;
  same : l.lanes ≡ l.initial.lanes;
  right : AreObservabilities l.notes (net_of l.graph) l.initial.lanes.words;
}
