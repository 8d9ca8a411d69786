use Rattle.std.proofs.Common.{◌≡◌, map, take}
use Rattle.cover_sharing.specs.Inner.Standing.{stand_by}
use Rattle.cover_sharing.proofs.standing.stand_for_all.Given as goal

abbrev pub invariant-loop-name : goal.invariant-loop-name
invariant-loop-name l = l.made.items ≡ map (stand_by l.table l.stands) (take l.name-index l.names)
