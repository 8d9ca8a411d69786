use Rattle.std.proofs.Common.{Err, ap, arith}
use Rattle.journal_check.proofs.Public.{handed_on}
use Rattle.rambo_cli.specs.Inner.Problems.{IsWant, run_error_problem}
use Rattle.rambo_cli.proofs.Wanting.{run_error_wants}
use Rattle.rambo_cli.proofs.showing.show.Goals as goal

pub returns-in_err-run-clause-cause : goal.returns-in_err-run-clause-cause
returns-in_err-run-clause-cause g c =
    handed_on c.from_residual-in_err-run.result (run_error_problem c.in_err-run.field-0.0) IsWant c.from_residual-in_err-run.ensures.1
    (run_error_wants c.in_err-run.field-0.0
    (λ pins e. let over = c.in_err-run.ensures.over pins (ap Err e) in omega (arith, over.1.0, c.in_ok-model.ensures.fits))
    (λ e. c.in_err-run.ensures.failed (ap Err e)))
