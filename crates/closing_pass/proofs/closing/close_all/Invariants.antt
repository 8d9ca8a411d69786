use Rattle.gate_graph.specs.Circuit.{net_of}
use Rattle.gate_net.specs.Net.{source_count, wire_count}
use Rattle.journal_text.specs.Appends.{IsThere}
use Rattle.std.proofs.Common.{◌≤◌}
use Rattle.wire_edit.specs.Order.{IsTidy}
use Rattle.wire_edit.specs.Work.{work}
use Rattle.closing_pass.specs.Inner.Closing.{HasGone, Went}
use Rattle.closing_pass.specs.Inner.Findings.{AreLong}
use Rattle.closing_pass.proofs.closing.close_all.Given as goal

abbrev pub invariant-loop-kept : goal.invariant-loop-kept
invariant-loop-kept g l = record {
  gone : HasGone (net_of l.initial.trial.graph) (net_of l.trial.graph) l.made (g.S.Shelf.files l.initial.shelf) (g.S.Shelf.files l.shelf) l.journal;
  went : Went l.initial.trial l.trial;
  tidy : IsTidy (net_of l.trial.graph);
  room : work (net_of l.trial.graph) ≤ l.trial.room.steps;
  long : AreLong l.kept.items (source_count (net_of l.trial.graph));
  there : IsThere (g.S.Shelf.files l.shelf) l.journal;
  later : g.S.Shelf.faults l.initial.shelf ≤ g.S.Shelf.faults l.shelf;
}

abbrev pub decreases-loop-kept : goal.decreases-loop-kept
decreases-loop-kept g l = wire_count (net_of l.trial.graph)
