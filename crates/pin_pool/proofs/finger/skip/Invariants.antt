use Rattle.std.proofs.Common.{◌≡◌, drop}
use Rattle.pin_pool.proofs.finger.skip.Given as goal

abbrev pub invariant-loop-left : goal.invariant-loop-left
invariant-loop-left l = drop l.left l.pins ≡ drop l.fn.count l.fn.pins
