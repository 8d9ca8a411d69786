-- What follows for the net to which accepted steps lead.
use Rattle.std.specs.Prelude.{◌≡◌, ℕ, List}
use Rattle.rm_model.specs.Value.{IsRanked}
use Rattle.rm_model.specs.WellFormed.{IsWellFormed as IsModel}
use Rattle.rm_model.specs.declared.parts.Model.{Model}
use Rattle.gate_net.specs.Net.{Net, IsWellFormed}
use Rattle.wire_edit.specs.declared.steps.Step.{Step}
use Rattle.cover_decompose.specs.Decomposition.{net_of_model}
use Rattle.cover_decompose.specs.StandsFor.{StandsFor, HasPoints}
use Rattle.graph_to_model.specs.Fits.{Fits}
use Rattle.graph_to_model.specs.Laws.{AreFew}
use Rattle.graph_to_model.specs.NetModel.{model_of_net}
use Rattle.sewing.specs.Laws.{IsReplacement}
use Rattle.step_replay.specs.Rebuilding.{IsRebuilt}

-- what holds of the decomposition of a model
pub record IsDecomposed (m : Model) : Type 0 where
  pub formed : IsWellFormed (net_of_model m)
  pub stands : StandsFor (net_of_model m) m
  pub points : HasPoints (net_of_model m) m

-- the net has the sources and the observed points of the model
abbrev pub RebuiltNetsFit : Type 0
RebuiltNetsFit = (m : Model) (steps : List Step) (count : ℕ) (net : Net) → IsDecomposed m → IsRebuilt m steps count net → Fits net m

-- its model is well formed and computes what the model does
abbrev pub RebuiltNetsReplace : Type 0
RebuiltNetsReplace =
    (m : Model) (steps : List Step) (count : ℕ) (net : Net) → IsModel m → IsRanked m → IsDecomposed m → AreFew net m → IsRebuilt m steps count net
    → IsReplacement m (model_of_net m net)
