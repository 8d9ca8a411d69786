-- A run that ends early once its model is within the limits.
use Rattle.optimisation.specs.declared.run_error.RunError.{RunError}
use Rattle.optimisation.specs.declared.run_error.RunError.TheVariants.{Limit, Failed, NoMemory}

-- no limit
abbrev pub IsRunError : RunError → Type 0
IsRunError (Limit pins) = ⊥
IsRunError Failed = Unit {0}
IsRunError NoMemory = Unit {0}
