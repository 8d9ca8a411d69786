use Rattle.std.proofs.Common.{◌≤◌, Option}
use Rattle.rm_base.specs.Files.{Files}
use Rattle.gate_net.specs.Net.{wire_count}
use Rattle.gate_graph.specs.Circuit.{Circuit, net_of}
use Rattle.journal_text.specs.Appends.{IsThere}
use Rattle.rar_loop.specs.Inner.Improving.{IsUnderWay}
use Rattle.rar_loop.specs.Inner.Spaces.{IsReady}
use Rattle.rar_loop.proofs.optimising.improve.Given as goal

abbrev pub invariant-loop-tries : goal.invariant-loop-tries
invariant-loop-tries g l = record {
  under_way : (before : Circuit) (files : Option Files) → IsUnderWay before l.fn.start l.fn.start l.limits.settings.depth l.limits.settings.tries l.limits.settings.tries l.fn.space.trial.graph l.fn.made files (g.S.Shelf.files l.fn.shelf) l.journal
      → IsUnderWay before l.fn.start l.start l.limits.settings.depth l.limits.settings.tries l.left l.space.trial.graph l.made files (g.S.Shelf.files l.shelf) l.journal;
  left_within : l.left ≤ l.limits.settings.tries;
  ready : IsReady l.space;
  there : IsThere (g.S.Shelf.files l.shelf) l.journal;
  later : g.S.Shelf.faults l.fn.shelf ≤ g.S.Shelf.faults l.shelf;
}

abbrev pub decreases-loop-tries : goal.decreases-loop-tries
decreases-loop-tries g l = wire_count (net_of l.space.trial.graph)
