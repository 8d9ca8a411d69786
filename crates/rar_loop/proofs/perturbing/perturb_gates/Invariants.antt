use Rattle.std.proofs.Common.{◌≤◌}
use Rattle.gate_graph.specs.Circuit.{net_of}
use Rattle.journal_text.specs.Appends.{IsThere}
use Rattle.rar_loop.specs.Inner.Exchanging.{HasNumbers}
use Rattle.rar_loop.specs.Inner.Perturbing.{PerturbsOn}
use Rattle.rar_loop.specs.Inner.Spaces.{IsReady}
use Rattle.rar_loop.proofs.perturbing.perturb_gates.Given as goal

abbrev pub invariant-loop-number : goal.invariant-loop-number
invariant-loop-number g l = record {
  on : PerturbsOn l.limits.settings.depth l.limits.settings.tries (record { left = l.initial.left; gate = 0; position = 0 }) l.initial.space.trial.graph l.initial.made (g.S.Shelf.files l.initial.shelf) (record { left = l.left; gate = l.number; position = 0 }) l.space.trial.graph l.made (g.S.Shelf.files l.shelf) l.journal;
  numbers : HasNumbers (net_of l.space.trial.graph) l.finder;
  ready : IsReady l.space;
  there : IsThere (g.S.Shelf.files l.shelf) l.journal;
  later : g.S.Shelf.faults l.initial.shelf ≤ g.S.Shelf.faults l.shelf;
}
