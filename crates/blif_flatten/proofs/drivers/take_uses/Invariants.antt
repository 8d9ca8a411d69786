use Rattle.std.proofs.Common.{◌≡◌, [], take, drop}
use Rattle.blif_flatten.specs.CallFaults.{driven_twice_fault}
use Rattle.blif_flatten.specs.Inner.Uses.{AreDrivers, uses_at}
use Rattle.blif_flatten.proofs.drivers.take_uses.Given as goal

abbrev pub invariant-loop-this : goal.invariant-loop-this
invariant-loop-this l = AreDrivers (uses_at (take l.this-index l.uses)) l.drivers
    × (driven_twice_fault [] (uses_at l.uses) ≡ driven_twice_fault (uses_at (take l.this-index l.uses)) (uses_at (drop l.this-index l.uses)))
