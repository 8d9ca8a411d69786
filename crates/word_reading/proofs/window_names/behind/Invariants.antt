use Rattle.std.proofs.Common.{◌≡◌, length}
use Rattle.word_reading.specs.Words.{behind}
use Rattle.word_reading.proofs.window_names.behind.Given as goal

abbrev pub invariant-loop-wanted : goal.invariant-loop-wanted
invariant-loop-wanted l = behind l.fn.prefix l.fn.name ≡ behind l.left l.rest

abbrev pub decreases-loop-wanted : goal.decreases-loop-wanted
decreases-loop-wanted l = length l.left
