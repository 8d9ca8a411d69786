-- An error of a run over a small model on a sure shelf is out of memory.
use Rattle.std.proofs.Common.{◌≡◌, ℕ, arith, refl}
use Rattle.rm_base.specs.Causes.{Rose}
use Rattle.optimisation.specs.declared.run_error.RunError.{RunError}
use Rattle.optimisation.specs.declared.run_error.RunError.TheVariants as run_error
use Rattle.rambo_cli.specs.Inner.Problems.{IsWant, run_error_problem}

pub run_error_wants : (h : RunError) → ((pins : ℕ) → h ≡ run_error.Limit pins → ⊥) → (h ≡ run_error.Failed → Rose 0 0) → IsWant (run_error_problem h)
run_error_wants (run_error.Limit pins) over failed = absurd (over pins refl)
run_error_wants run_error.Failed over failed = let rose : Rose 0 0 = failed refl in absurd (omega (arith, rose))
run_error_wants run_error.NoMemory over failed = tt
