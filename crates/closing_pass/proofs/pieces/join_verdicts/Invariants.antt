use Rattle.std.proofs.Common.{◌≡◌, ◌++◌}
use Rattle.closing_pass.proofs.pieces.join_verdicts.Given as goal

abbrev pub invariant-loop-verdict : goal.invariant-loop-verdict
invariant-loop-verdict l = l.verdicts.items ≡ l.initial.verdicts.items ++ l.yielded
