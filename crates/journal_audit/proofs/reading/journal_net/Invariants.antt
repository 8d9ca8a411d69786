use Rattle.std.proofs.Common.{◌≡◌, ◌≤◌, ◌-◌, ◌^◌}
use Rattle.journal_audit.specs.Inner.Turns.{IsReadSoFar}
use Rattle.journal_audit.proofs.reading.journal_net.Given as goal

abbrev pub invariant-loop-stage : goal.invariant-loop-stage
invariant-loop-stage g l =
    IsReadSoFar (g.S.Shelf.files l.initial.shelf) l.model l.journal l.from l.reader l.stage
    × ((g.S.Shelf.files l.shelf ≡ g.S.Shelf.files l.initial.shelf) × ((g.S.Shelf.faults l.initial.shelf ≤ g.S.Shelf.faults l.shelf) × (l.from ≤ 2 ^ 62)))

abbrev pub decreases-loop-stage : goal.decreases-loop-stage
decreases-loop-stage g l = 2 ^ 62 - l.from
