use Rattle.std.proofs.Common.{◌≡◌, drop}
use Rattle.blif_flatten.specs.Recursion.{recursion_fault, recursion_from}
use Rattle.blif_flatten.specs.Inner.Ranks.{DoNotRise}
use Rattle.blif_flatten.proofs.recursion.level_call.Given as goal

abbrev pub invariant-loop-holder : goal.invariant-loop-holder
invariant-loop-holder l = DoNotRise l.numbers l.modules → recursion_fault l.modules ≡ recursion_from l.modules l.holder (drop l.holder l.modules)
