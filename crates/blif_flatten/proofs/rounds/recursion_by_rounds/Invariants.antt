use Rattle.std.proofs.Common.{◌≡◌, drop}
use Rattle.blif_flatten.specs.Recursion.{recursion_fault, recursion_from}
use Rattle.blif_flatten.proofs.rounds.recursion_by_rounds.Given as goal

abbrev pub invariant-loop-holder : goal.invariant-loop-holder
invariant-loop-holder l = recursion_fault l.modules ≡ recursion_from l.modules l.holder (drop l.holder l.modules)
