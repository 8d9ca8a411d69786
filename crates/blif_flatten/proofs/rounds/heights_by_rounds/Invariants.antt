use Rattle.std.proofs.Common.{◌≡◌, ◌-◌, ◌^◌}
use Rattle.blif_flatten.specs.Inner.Rounds.{heights}
use Rattle.blif_flatten.proofs.rounds.heights_by_rounds.Given as goal

abbrev pub invariant-loop : goal.invariant-loop
invariant-loop l = l.all.items ≡ heights (2 ^ 64 - 1) l.counter l.modules
