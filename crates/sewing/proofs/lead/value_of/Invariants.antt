use Rattle.std.proofs.Common.{◌≡◌, drop}
use Rattle.sewing.specs.Inner.Making.{value_from}
use Rattle.sewing.proofs.lead.value_of.Given as goal

abbrev pub invariant-loop-byte : goal.invariant-loop-byte
invariant-loop-byte l = value_from 0 l.text ≡ value_from l.value (drop l.byte-index l.text)
