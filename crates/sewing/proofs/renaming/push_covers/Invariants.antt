use Rattle.std.proofs.Common.{◌≡◌, ◌++◌, take, map}
use Rattle.sewing.specs.Inner.Making.{name_by}
use Rattle.sewing.specs.Sewn.{renamed_cover}
use Rattle.sewing.proofs.renaming.push_covers.Given as goal

abbrev pub invariant-loop-cover : goal.invariant-loop-cover
invariant-loop-cover l = l.out.items ≡ l.initial.out.items ++ map (renamed_cover (name_by l.edge l.lead l.number)) (take l.cover-index l.covers)
