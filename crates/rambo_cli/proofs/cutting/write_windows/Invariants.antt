use Rattle.std.proofs.Common.{◌≡◌, ◌≤◌}
use Rattle.rambo_cli.proofs.CutTexts.{first_put}
use Rattle.rambo_cli.proofs.cutting.write_windows.Given as goal

abbrev pub invariant-loop-place : goal.invariant-loop-place
invariant-loop-place g l = record {
  files : g.S.Shelf.files l.shelf ≡ first_put l.prefix l.windows l.place (g.S.Shelf.files l.fn.shelf);
  later : g.S.Shelf.faults l.fn.shelf ≤ g.S.Shelf.faults l.shelf;
}
