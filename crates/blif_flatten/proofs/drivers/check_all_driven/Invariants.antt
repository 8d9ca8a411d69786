use Rattle.std.proofs.Common.{◌≡◌, drop}
use Rattle.std.specs.Prelude.{find}
use Rattle.blif_format.specs.FirstFault.{is_undriven}
use Rattle.blif_flatten.specs.Inner.Uses.{uses_at}
use Rattle.blif_flatten.proofs.drivers.check_all_driven.Given as goal

abbrev pub invariant-loop-this : goal.invariant-loop-this
invariant-loop-this l = find (is_undriven (uses_at l.uses)) (uses_at l.uses) ≡ find (is_undriven (uses_at l.uses)) (uses_at (drop l.this-index l.uses))
