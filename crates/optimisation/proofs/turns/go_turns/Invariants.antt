use Rattle.std.proofs.Common.{◌≤◌}
use Rattle.gate_graph.specs.Circuit.{net_of}
use Rattle.journal_text.specs.Appends.{IsThere}
use Rattle.optimisation.specs.Allowed.{IsAllowed}
use Rattle.optimisation.specs.Inner.Turned.{HasTurns}
use Rattle.optimisation.proofs.turns.go_turns.Given as goal

abbrev pub invariant-loop-turn : goal.invariant-loop-turn
invariant-loop-turn g l = record {
  turned : HasTurns (net_of l.fn.graph) l.settings l.turn l.rounds (g.S.Shelf.files l.fn.shelf) (g.S.Shelf.files l.shelf) l.journal;
  allowed : IsAllowed l.settings l.rounds.last.limit l.work;
  grown : l.fn.work ≤ l.work;
  there : IsThere (g.S.Shelf.files l.shelf) l.journal;
  later : g.S.Shelf.faults l.fn.shelf ≤ g.S.Shelf.faults l.shelf;
}
