use Rattle.std.proofs.Common.{◌≡◌, length}
use Rattle.blif_flatten.proofs.components.visit_all.Given as goal

abbrev pub invariant-loop : goal.invariant-loop
invariant-loop l = length l.all.component.items ≡ length l.initial.all.component.items
