-- The gate-input wires of a model.
use Rattle.std.specs.Prelude.{ℕ, Bool, true, false, not, ◌&&◌, ◌==◌, [], ◌∷◌, length, sum_by, if◌then◌else◌}
use Rattle.rm_model.specs.Value.{value_of}
use Rattle.rm_model.specs.declared.parts.Cover.{Cover}
use Rattle.rm_model.specs.declared.parts.Model.{Model}

-- a cover whose output is always its one input
abbrev pub is_copy : Cover → Bool
is_copy c = (length c.inputs == 1) && (value_of c (true ∷ []) && not (value_of c (false ∷ [])))

-- the inputs of the covers that are no copies; constants have none
abbrev pub wires : Model → ℕ
wires m = sum_by (λ (c : Cover). if is_copy c then 0 else length c.inputs) m.covers
