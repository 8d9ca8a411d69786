use Rattle.std.proofs.Common.{◌≡◌, take}
use Rattle.blif_flatten.specs.Inner.Rounds.{leads_after}
use Rattle.blif_flatten.proofs.rounds.next_leading.Given as goal

abbrev pub invariant-loop-module : goal.invariant-loop-module
invariant-loop-module l = l.next.items ≡ leads_after l.leading l.to (take l.module-index l.modules)
