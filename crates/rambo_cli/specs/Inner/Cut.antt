-- What writing windows leaves, over files that may not be told.
use Rattle.std.specs.Prelude.{◌≡◌, ◌<◌, ◌⊎◌, ℕ, List, Option, OnOk, length}
use Rattle.std.specs.Option.{option_map}
use Rattle.rm_base.specs.Files.{Files}
use Rattle.rm_base.specs.Words.{Word}
use Rattle.rm_model.specs.declared.parts.Model.{Model}
use Rattle.blif_format.specs.declared.refusal.Quantity.TheVariants.{Windows}
use Rattle.window_fit.specs.Shared.{shared_windows}
use Rattle.rambo_cli.specs.Files.{IfTold}
use Rattle.rambo_cli.specs.Cut.{HaveFirst, HavePart, put_windows}
use Rattle.rambo_cli.specs.Windows.{most_windows}
use Rattle.rambo_cli.specs.declared.problem.Problem.{Problem}
use Rattle.rambo_cli.specs.declared.problem.Problem.TheVariants.{Limit, Memory}

-- so many windows are more than there may be
abbrev pub WindowsCause : ℕ → Problem → Type 0
WindowsCause windows (Limit quantity count) = (quantity ≡ Windows) × ((count ≡ windows) × (most_windows < windows))
WindowsCause windows Memory = Unit {0}
WindowsCause windows _ = ⊥

-- nothing is told, or some windows stand in their files
abbrev pub BeginsWindows : Word → List Model → Option Files → Option Files → Type 0
BeginsWindows prefix windows old new = IfTold old new (λ before after. HaveFirst prefix windows before after ⊎ HavePart prefix windows before after)

abbrev pub all_put : Word → List Model → Option Files → Option Files
all_put prefix windows files = option_map (put_windows prefix 1 windows) files
