use Rattle.std.proofs.Common.{◌≡◌, drop}
use Rattle.sewing.specs.Inner.Making.{unmarked_from}
use Rattle.sewing.proofs.lead.least_unmarked.Given as goal

abbrev pub invariant-loop-number : goal.invariant-loop-number
invariant-loop-number l = unmarked_from 0 l.marks ≡ unmarked_from l.number (drop l.number l.marks)
