-- What is found of the input, and when it can be optimised.
use Rattle.std.specs.Prelude.{◌≡◌, ◌≤◌, ℕ, List, None, Option, length}
use Rattle.rm_base.specs.Files.{Files}
use Rattle.rm_model.specs.declared.parts.Model.{Model}
use Rattle.blif_lines.specs.Layout.{lines_of}
use Rattle.blif_format.specs.Grammar.{Reads}
use Rattle.blif_format.specs.FirstFault.{first_fault}
use Rattle.cover_decompose.specs.Count.{decomposed}
use Rattle.rambo_cli.specs.Contract.{Caused}
use Rattle.rambo_cli.specs.Files.{IsAbsent, OfFile}
use Rattle.rambo_cli.specs.Written.{ExceedsBy, HasFault, most_bytes, most_pins}
use Rattle.rambo_cli.specs.declared.problem.Problem.{Problem}
use Rattle.rambo_cli.specs.declared.problem.Problem.TheVariants.{Text, Limit, Missing}
use Rattle.rm_base.specs.Words.{Word}

-- its first fault, a quantity over its limit, or that it isn't there; the wires of the decomposition are counted so
abbrev pub FindsBy : (Model → ℕ) → Word → Option Files → Problem → Type 0
FindsBy wires name files (Text kind place) = OfFile name files (λ text. HasFault text kind place)
FindsBy wires name files (Limit quantity count) = OfFile name files (λ text. ExceedsBy wires text quantity count)
FindsBy wires name files Missing = IsAbsent name files
FindsBy wires name files _ = ⊥

abbrev pub ReadFinds : Word → Option Files → Problem → Type 0
ReadFinds = FindsBy decomposed

-- why the input isn't read, or isn't optimised
abbrev pub CauseBy : (Model → ℕ) → Word → Option Files → ℕ → ℕ → Problem → Type 0
CauseBy wires name files before now problem = Caused (FindsBy wires name files) before now problem

abbrev pub ReadCause : Word → Option Files → ℕ → ℕ → Problem → Type 0
ReadCause = CauseBy decomposed

-- the text has no fault and is within all limits
pub record IsGoodBy (wires : Model → ℕ) (text : List ℕ) : Type 0 where
  pub short : length text ≤ most_bytes
  pub faultless : first_fault text ≡ None
  pub few : (model : Model) → Reads (lines_of text) model → wires model ≤ most_pins

abbrev pub CanBeOptimised : List ℕ → Type 0
CanBeOptimised = IsGoodBy decomposed
