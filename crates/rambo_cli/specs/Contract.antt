-- What a command promises over the files before and after: its contract. Each command's stands in a file of its own.
use Rattle.std.specs.Prelude.{◌≡◌, ℕ, Bool, Option, IsTrue}
use Rattle.rm_base.specs.Causes.{Rose}
use Rattle.rm_base.specs.Files.{Files}
use Rattle.rambo_cli.specs.declared.work.Done.{Done}
use Rattle.rambo_cli.specs.declared.problem.Problem.{Problem}
use Rattle.rambo_cli.specs.declared.problem.Problem.TheVariants.{Fault, Memory}

pub record Contract : Type 1 where
  -- what it has done where it ends with status 0
  pub Does : Option Files → Option Files → Done → Type 0
  -- what each problem says of the files, but for those of the outside
  pub Finds : Option Files → Problem → Type 0
  -- what it may leave of the files, whatever the status
  pub Leaves : Option Files → Option Files → Type 0
  -- it calls the file store
  pub needs_files : Bool
  -- files with which nothing but the outside keeps it from status 0
  pub IsGood : Option Files → Type 0
  -- files with which nothing but the outside keeps it from status 0 or 6
  pub IsJudged : Option Files → Type 0
  -- files with which nothing but the outside keeps it from status 0, 7, 8 or 9
  pub IsCompared : Option Files → Type 0

-- a problem of the outside: a call has failed, which the count tells, or memory ran out; or what is found of the files
abbrev pub Caused : (Problem → Type 0) → ℕ → ℕ → Problem → Type 0
Caused Finds before now Fault = Rose before now
Caused Finds before now Memory = Unit {0}
Caused Finds before now problem = Finds problem

-- over these files the command isn't done, and finds nothing but that problem
pub record FindsAlone (c : Contract) (files : Option Files) (problem : Problem) : Type 0 where
  pub never_done : (new : Option Files) (done : Done) → c.Does files new done → ⊥
  pub alone : (other : Problem) → c.Finds files other → other ≡ problem

-- a call of the file store has failed
abbrev pub StoreFails : Contract → ℕ → ℕ → Type 0
StoreFails c before now = IsTrue c.needs_files × Rose before now

-- why a command doesn't end with 0
abbrev pub IsCause : Contract → Option Files → ℕ → ℕ → Problem → Type 0
IsCause c files before now Fault = StoreFails c before now
IsCause c files before now Memory = Unit {0}
IsCause c files before now problem = c.Finds files problem
