use Rattle.std.proofs.Common.{◌≡◌, length}
use Rattle.word_reading.specs.Words.{has_number_then}
use Rattle.word_reading.proofs.window_names.has_number_then.Given as goal

abbrev pub invariant-loop-first : goal.invariant-loop-first
invariant-loop-first l = has_number_then l.fn.ending l.fn.name ≡ has_number_then l.fn.ending l.rest

abbrev pub decreases-loop-first : goal.decreases-loop-first
decreases-loop-first l = length l.rest
