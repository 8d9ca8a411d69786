use Rattle.std.proofs.Common.{◌≤◌}
use Rattle.gate_net.specs.Net.{wire_count}
use Rattle.gate_graph.specs.Circuit.{net_of}
use Rattle.journal_text.specs.Appends.{IsThere}
use Rattle.optimisation.specs.Allowed.{IsAllowed}
use Rattle.optimisation.specs.Inner.Ran.{HasRecorded}
use Rattle.optimisation.proofs.rounds.go_rounds.Given as goal

abbrev pub invariant-loop-closed : goal.invariant-loop-closed
invariant-loop-closed g l = record {
  recorded : HasRecorded (net_of l.fn.graph) l.settings l.round (g.S.Shelf.files l.fn.shelf) (g.S.Shelf.files l.shelf) l.journal;
  tries : l.round.tries ≤ l.round.limit;
  allowed : IsAllowed l.settings l.round.limit l.work;
  grown : l.fn.work ≤ l.work;
  there : IsThere (g.S.Shelf.files l.shelf) l.journal;
  later : g.S.Shelf.faults l.fn.shelf ≤ g.S.Shelf.faults l.shelf;
}

abbrev pub decreases-loop-closed : goal.decreases-loop-closed
decreases-loop-closed g l = wire_count (net_of l.round.graph)
