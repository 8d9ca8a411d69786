use Rattle.std.proofs.Common.{◌≡◌, take, map}
use Rattle.sewing.specs.Inner.Making.{name_by}
use Rattle.sewing.proofs.renaming.sewn_names.Given as goal

abbrev pub invariant-loop-name : goal.invariant-loop-name
invariant-loop-name l = l.made.items ≡ map (name_by l.edge l.lead l.number) (take l.name-index l.names)
