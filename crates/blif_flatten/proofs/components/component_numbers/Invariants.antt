use Rattle.std.proofs.Common.{◌≡◌, length}
use Rattle.blif_flatten.proofs.components.component_numbers.Given as goal

abbrev pub invariant-loop-module : goal.invariant-loop-module
invariant-loop-module l = length l.all.component.items ≡ l.count
