use Rattle.std.proofs.Common.{◌≡◌, ◌-◌, ◌^◌, take}
use Rattle.blif_flatten.specs.Inner.Rounds.{height_of}
use Rattle.blif_flatten.proofs.rounds.next_heights.Given as goal

abbrev pub invariant-loop-module : goal.invariant-loop-module
invariant-loop-module l = l.next.items ≡ height_of (2 ^ 64 - 1) l.all (take l.module-index l.modules)
