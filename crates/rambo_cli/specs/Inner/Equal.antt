-- Why two models that were read aren't compared.
use Rattle.std.specs.Prelude.{true, false}
use Rattle.rm_model.specs.declared.parts.Model.{Model}
use Rattle.blif_format.specs.declared.refusal.Quantity.TheVariants.{Pins}
use Rattle.equal_miter.specs.declared.refusal.MiterRefusal.{MiterRefusal}
use Rattle.equal_miter.specs.declared.refusal.MiterRefusal.TheVariants as miter
use Rattle.rambo_cli.specs.Pairs.{DifferAt}
use Rattle.rambo_cli.specs.declared.problem.NameList.TheVariants.{Sources, Observed}
use Rattle.rambo_cli.specs.declared.problem.TextProblem.TheVariants as found
use Rattle.rambo_cli.specs.declared.problem.Problem.{Problem}
use Rattle.rambo_cli.specs.declared.problem.Problem.TheVariants.{Limit, Second, Unlike, Memory}

-- the problem that comparing two models ends with
abbrev pub miter_problem : MiterRefusal → Problem
miter_problem (miter.UnlikeSources at) = Unlike Sources at
miter_problem (miter.UnlikeObserved at) = Unlike Observed at
miter_problem (miter.Limit false pins) = Limit Pins pins
miter_problem (miter.Limit true pins) = Second (found.Limit Pins pins)
miter_problem miter.NoMemory = Memory

-- the names of two models differ, or memory ran out
abbrev pub IsUnlikeFor : Model → Model → Problem → Type 0
IsUnlikeFor m n (Unlike list at) = DifferAt m n list at
IsUnlikeFor m n Memory = Unit {0}
IsUnlikeFor m n _ = ⊥
