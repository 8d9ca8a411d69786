use Rattle.std.proofs.Common.{◌≤◌}
use Rattle.gate_net.specs.Net.{Net}
use Rattle.gate_graph.specs.Circuit.{net_of}
use Rattle.wire_edit.specs.Work.{work}
use Rattle.wire_edit.specs.Tidying.{TidiesTo}
use Rattle.changed_nodes.specs.Changing.{NotesOn}
use Rattle.recorded_removals.specs.Going.{AddsLocal, Goes}
use Rattle.recorded_removals.proofs.tidying.tidy.Given as goal

abbrev pub invariant-loop-step : goal.invariant-loop-step
invariant-loop-step l = record {
  goes : Goes l.initial.trial l.trial l.initial.log.items l.log.items;
  local : AddsLocal l.initial.log.items l.log.items;
  order : (last : Net) → TidiesTo (net_of l.trial.graph) last → TidiesTo (net_of l.initial.trial.graph) last;
  noted : NotesOn (net_of l.initial.trial.graph) (net_of l.trial.graph) l.initial.changed l.changed;
  room : work (net_of l.trial.graph) ≤ l.trial.room.steps;
}

abbrev pub decreases-loop-step : goal.decreases-loop-step
decreases-loop-step l = work (net_of l.trial.graph)
