-- Two texts that are read one after the other: what they say, and what is found of them. The wires of their decompositions are
-- counted as the command decomposes them.
use Rattle.std.specs.Prelude.{◌≡◌, ◌≤◌, ◌⊎◌, ℕ, Option, Some}
use Rattle.rm_base.specs.Files.{Files}
use Rattle.rm_base.specs.Words.{Word}
use Rattle.rm_model.specs.Value.{observed_names, source_names}
use Rattle.rm_model.specs.declared.parts.Model.{Model}
use Rattle.equal_miter.specs.Refusals.{first_difference}
use Rattle.rambo_cli.specs.Files.{Holds, OfFile}
use Rattle.rambo_cli.specs.Input.{FindsBy, IsGoodBy}
use Rattle.rambo_cli.specs.Written.{IsSaid, most_pins}
use Rattle.rambo_cli.specs.declared.problem.NameList.{NameList}
use Rattle.rambo_cli.specs.declared.problem.NameList.TheVariants.{Sources, Observed}
use Rattle.rambo_cli.specs.declared.problem.TextProblem.{TextProblem}
use Rattle.rambo_cli.specs.declared.problem.TextProblem.TheVariants as found
use Rattle.rambo_cli.specs.declared.problem.Problem.{Problem}
use Rattle.rambo_cli.specs.declared.problem.Problem.TheVariants.{Text, Limit, Missing, Second}

-- the texts say these models, which are within the limits
pub record AreRead (wires : Model → ℕ) (first second : Word) (m n : Model) (told : Files) : Type 0 where
  pub first_is : Holds told first (λ text. IsSaid text m)
  pub second_is : Holds told second (λ text. IsSaid text n)
  pub few : wires m ≤ most_pins
  pub second_few : wires n ≤ most_pins

-- what is found of the second text, where nothing is found of the first
abbrev pub SecondFinds : (Model → ℕ) → Word → Word → Option Files → Problem → Type 0
SecondFinds wires first second files problem = OfFile first files (IsGoodBy wires) × FindsBy wires second files problem

-- the problem as one of the text alone
abbrev pub text_problem : TextProblem → Problem
text_problem (found.Fault kind place) = Text kind place
text_problem (found.Limit quantity count) = Limit quantity count

-- what is found of the first text, or of the second one
abbrev pub PairFinds : (Model → ℕ) → Word → Word → Option Files → Problem → Type 0
PairFinds wires first second files (Text kind place) = FindsBy wires first files (Text kind place)
PairFinds wires first second files (Limit quantity count) = FindsBy wires first files (Limit quantity count)
PairFinds wires first second files Missing = FindsBy wires first files Missing ⊎ SecondFinds wires first second files Missing
PairFinds wires first second files (Second problem) = SecondFinds wires first second files (text_problem problem)
PairFinds wires first second files _ = ⊥

-- both texts have no fault and are within all limits
pub record CanBeCompared (wires : Model → ℕ) (first second : Word) (told : Files) : Type 0 where
  pub first_is : Holds told first (IsGoodBy wires)
  pub second_is : Holds told second (IsGoodBy wires)

-- the first place at which these lists of two models differ; that of the observed names counts where the sources are the same
abbrev pub DifferAt : Model → Model → NameList → ℕ → Type 0
DifferAt m n Sources at = first_difference (source_names m) (source_names n) ≡ Some at
DifferAt m n Observed at = (source_names m ≡ source_names n) × (first_difference (observed_names m) (observed_names n) ≡ Some at)

-- that is so of the models that the texts say
pub record AreUnlike (wires : Model → ℕ) (first second : Word) (list : NameList) (at : ℕ) (told : Files) : Type 0 where
  pub model : Model
  pub other : Model
  pub read : AreRead wires first second model other told
  pub differ : DifferAt model other list at
