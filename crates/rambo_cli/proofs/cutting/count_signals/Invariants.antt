use Rattle.std.proofs.Common.{◌≡◌, ◌+◌, length}
use Rattle.rambo_cli.specs.Cut.{signals_of}
use Rattle.rambo_cli.proofs.cutting.count_signals.Given as goal

abbrev pub invariant-loop-window : goal.invariant-loop-window
invariant-loop-window l = signals_of l.fn.windows ≡ l.count + signals_of l.left

abbrev pub decreases-loop-window : goal.decreases-loop-window
decreases-loop-window l = length l.left
