-- When two models compute the same wherever a third one is 1.
use Rattle.std.specs.Prelude.{Bool, [], length, map, true, ◌∷◌, ◌≡◌}
use Rattle.rm_base.specs.Words.{Word}
use Rattle.rm_model.specs.Value.{IsConsistent, IsRanked, observed_names, source_names}
use Rattle.rm_model.specs.declared.parts.Model.{Model}

-- a care model has one output, no clocks and no latches
pub record HasCareShape (c : Model) : Type 0 where
  pub clocks : c.clocks ≡ []
  pub latches : c.latches ≡ []
  pub output : length c.outputs ≡ 1

-- and reads the sources of the model, in order
pub record IsCareOf (m c : Model) : Type 0 where
  pub shape : HasCareShape c
  pub sources : source_names m ≡ source_names c

-- the same but for their covers, and the same values at the observed names wherever the care model is 1
pub record EquivalentOn (m n c : Model) : Type 0 where
  pub name : m.name ≡ n.name
  pub inputs : m.inputs ≡ n.inputs
  pub outputs : m.outputs ≡ n.outputs
  pub clocks : m.clocks ≡ n.clocks
  pub latches : m.latches ≡ n.latches
  pub ranked : IsRanked m
  pub other_ranked : IsRanked n
  pub agree :
      (v w cares : Word → Bool) → IsConsistent m v → IsConsistent n w → IsConsistent c cares → map v (source_names m) ≡ map w (source_names n) → map v c.inputs ≡ map cares c.inputs
      → map cares c.outputs ≡ true ∷ [] → map v (observed_names m) ≡ map w (observed_names n)
