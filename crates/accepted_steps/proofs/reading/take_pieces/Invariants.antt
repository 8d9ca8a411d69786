use Rattle.std.proofs.Common.{◌≡◌, ◌≤◌, ◌-◌, ◌^◌}
use Rattle.accepted_steps.specs.Inner.Taking.{IsTakenSoFar}
use Rattle.accepted_steps.proofs.reading.take_pieces.Given as goal

abbrev pub invariant-loop-stop : goal.invariant-loop-stop
invariant-loop-stop g l =
    IsTakenSoFar (g.S.Shelf.files l.initial.shelf) l.model l.journal l.pieces l.reader l.taking
    × ((g.S.Shelf.files l.shelf ≡ g.S.Shelf.files l.initial.shelf) × ((g.S.Shelf.faults l.initial.shelf ≤ g.S.Shelf.faults l.shelf) × (l.pieces ≤ 2 ^ 62)))

abbrev pub decreases-loop-stop : goal.decreases-loop-stop
decreases-loop-stop g l = 2 ^ 62 - l.pieces
