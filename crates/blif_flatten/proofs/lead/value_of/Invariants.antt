use Rattle.std.proofs.Common.{◌≡◌, drop}
use Rattle.blif_flatten.specs.Inner.Leads.{value_from}
use Rattle.blif_flatten.proofs.lead.value_of.Given as goal

abbrev pub invariant-loop-byte : goal.invariant-loop-byte
invariant-loop-byte l = value_from 0 l.digits ≡ value_from l.value (drop l.byte-index l.digits)
