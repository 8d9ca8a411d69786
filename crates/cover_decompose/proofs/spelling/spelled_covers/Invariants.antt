use Rattle.std.proofs.Common.{◌≡◌, take, map}
use Rattle.cover_decompose.specs.Spelled.{spelled_cover}
use Rattle.cover_decompose.proofs.spelling.spelled_covers.Given as goal

abbrev pub invariant-loop-cover : goal.invariant-loop-cover
invariant-loop-cover l = l.made.items ≡ map spelled_cover (take l.cover-index l.covers)
