-- The model that is sewn of parts: the covers of all of them, in order, in place of those of the model.
use Rattle.std.specs.Prelude.{◌+◌, ℕ, List, [], ◌∷◌, ◌++◌, map}
use Rattle.rm_model.specs.declared.parts.Cover.{Cover}
use Rattle.rm_model.specs.declared.parts.Model.{Model}
use Rattle.sewing.specs.Windows.{kept_names}
use Rattle.sewing.specs.Names.{free_lead, sewn_name}
use Rattle.rm_base.specs.Words.{Word}

abbrev pub renamed_cover : (Word → Word) → Cover → Cover
renamed_cover f c = record c { inputs = map f c.inputs; output = f c.output }

-- the covers of the parts, of which the first has the number k
abbrev pub sewn_covers : Word → ℕ → List Model → List Cover
sewn_covers lead k [] = []
sewn_covers lead k (p ∷ ps) = map (renamed_cover (sewn_name lead k p)) p.covers ++ sewn_covers lead (k + 1) ps

-- sewn with this lead before the inner names; the parts have the numbers from 1 on
abbrev pub sewn_with : Word → Model → List Model → Model
sewn_with lead m parts = record m { covers = sewn_covers lead 1 parts }

-- sewn with the least lead that is free
abbrev pub sewn : Model → List Model → Model
sewn m parts = sewn_with (free_lead (kept_names m parts)) m parts
