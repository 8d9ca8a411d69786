use Rattle.std.proofs.Common.{◌≡◌, ◌≤◌, ◌-◌, ◌^◌}
use Rattle.journal_convert.specs.Inner.Pieces.{IsConverting}
use Rattle.journal_convert.proofs.converting.read_file.Given as goal

abbrev pub invariant-loop-kept : goal.invariant-loop-kept
invariant-loop-kept g l =
    IsConverting (g.S.Shelf.files l.initial.shelf) l.from l.pieces l.kept.budget l.kept.records.items l.reader
    × (g.S.Shelf.files l.shelf ≡ g.S.Shelf.files l.initial.shelf)
    × (g.S.Shelf.faults l.initial.shelf ≤ g.S.Shelf.faults l.shelf)

abbrev pub decreases-loop-kept : goal.decreases-loop-kept
decreases-loop-kept g l = 2 ^ 62 - l.pieces
