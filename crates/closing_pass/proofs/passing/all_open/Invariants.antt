use Rattle.std.proofs.Common.{◌≡◌}
use Rattle.std.specs.Prelude.{replicate}
use Rattle.closing_pass.specs.declared.finding.Finding.TheVariants.{Open}
use Rattle.closing_pass.proofs.passing.all_open.Given as goal

abbrev pub invariant-loop-place : goal.invariant-loop-place
invariant-loop-place l = l.found.items ≡ replicate l._place Open
