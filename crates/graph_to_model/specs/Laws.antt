-- What the model of a tidy net is.
use Rattle.std.specs.Prelude.{◌≡◌, ◌<◌, ◌≤◌, ◌+◌, ◌^◌, ◌⊎◌, true, All, length, max}
use Rattle.rm_model.specs.Value.{IsRanked, is_among, observed_names}
use Rattle.rm_model.specs.declared.parts.Cover.{Cover}
use Rattle.rm_model.specs.WellFormed.{IsWellFormed}
use Rattle.rm_model.specs.declared.parts.Model.{Model}
use Rattle.gate_net.specs.Net.{Net, wire_count, IsWellFormed as IsNet}
use Rattle.wire_edit.specs.Order.{IsTidy}
use Rattle.cover_decompose.specs.StandsFor.{StandsFor}
use Rattle.graph_to_model.specs.Names.{kept_names}
use Rattle.graph_to_model.specs.NetModel.{model_of_net}
use Rattle.graph_to_model.specs.Wires.{wires}
use Rattle.graph_to_model.specs.Fits.{Fits}
use Rattle.rm_base.specs.Words.{Word}

pub record IsModelOf (net : Net) (m : Model) : Type 0 where
  pub well_formed : IsWellFormed (model_of_net m net)
  pub ranked : IsRanked (model_of_net m net)
  pub stands : StandsFor net (model_of_net m net)
  pub wires : wires (model_of_net m net) ≡ wire_count net

-- so few nodes and names that numbers of 64 bits count them
pub record AreFew (net : Net) (m : Model) : Type 0 where
  pub nodes : length net.nodes < 2 ^ 64
  pub names : length (kept_names m) < 2 ^ 64

-- an observed name, or a short one
abbrev pub IsNamed : Model → Word → Type 0
IsNamed m x = (is_among (observed_names m) x ≡ true) ⊎ (length x ≤ 42)

-- the model of the net has no more covers than wires and observed names together, each with no more inputs than there are wires
pub record IsSmall (net : Net) (m : Model) : Type 0 where
  pub covers : length (model_of_net m net).covers ≤ wire_count net + length (observed_names m)
  pub inputs : All (λ (c : Cover). length c.inputs ≤ max 1 (wire_count net)) (model_of_net m net).covers
  pub outputs : All (λ (c : Cover). IsNamed m c.output) (model_of_net m net).covers

-- a tidy net has a small model
abbrev pub TidyNetsHaveSmallModels : Type 0
TidyNetsHaveSmallModels = (net : Net) (m : Model) → IsNet net → IsTidy net → IsWellFormed m → Fits net m → AreFew net m → IsSmall net m

-- a tidy net stands for its model, which has as many wires
abbrev pub TidyNetsHaveModels : Type 0
TidyNetsHaveModels = (net : Net) (m : Model) → IsNet net → IsTidy net → IsWellFormed m → Fits net m → AreFew net m → IsModelOf net m
