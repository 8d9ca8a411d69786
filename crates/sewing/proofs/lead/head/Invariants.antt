use Rattle.std.proofs.Common.{◌≡◌, ◌++◌, take, drop}
use Rattle.sewing.specs.Inner.Making.{head_of}
use Rattle.sewing.proofs.lead.head.Given as goal

abbrev pub invariant-loop-at : goal.invariant-loop-at
invariant-loop-at l = head_of l.name ≡ take l.at l.name ++ head_of (drop l.at l.name)
