use Rattle.std.proofs.Common.{◌≡◌, ◌++◌, ◌-◌, replicate}
use Rattle.diagnostics.proofs.excerpts.push_blanks.Given as goal

abbrev pub invariant-loop-place : goal.invariant-loop-place
invariant-loop-place l = l.out.items ++ replicate (l.count - l._place) 32 ≡ l.initial.out.items ++ replicate l.count 32
