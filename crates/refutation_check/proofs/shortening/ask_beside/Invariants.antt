use Rattle.std.proofs.Common.{◌≡◌}
use Rattle.refutation_check.proofs.shortening.ask_beside.Given as goal

abbrev pub invariant-loop-driver : goal.invariant-loop-driver
invariant-loop-driver l = record { numbers : l.account.trail.numbers ≡ l.initial.account.trail.numbers }
