use Rattle.std.proofs.Common.{◌≡◌, ◌≤◌, take}
use Rattle.std.specs.Prelude.{IfSome}
use Rattle.sewing.specs.Laws.{AreParts}
use Rattle.rambo_cli.specs.Sew.{HaveParts}
use Rattle.rambo_cli.proofs.stitching.parts_of.Given as goal

abbrev pub invariant-loop-place : goal.invariant-loop-place
invariant-loop-place g l = record {
  parts : IfSome (g.S.Shelf.files l.fn.shelf) (HaveParts l.prefix (take l.place l.windows) l.parts.models.items l.parts.replayed);
  replacements : AreParts (take l.place l.windows) l.parts.models.items;
  files : g.S.Shelf.files l.shelf ≡ g.S.Shelf.files l.fn.shelf;
  later : g.S.Shelf.faults l.fn.shelf ≤ g.S.Shelf.faults l.shelf;
}
