-- What a ranked model keeps beside the model.
use Rattle.std.specs.Prelude.{◌≡◌, length, map, Some}
use Rattle.rm_model.specs.Ranks.{ranks_of}
use Rattle.rm_model.specs.Signals.{AreNumbers}
use Rattle.rm_model.specs.Value.{source_names}
use Rattle.rm_model.specs.declared.ranked_model.RankedModel.TheInside.{Inside}

-- the numbers and the ranks are those of the model
pub record IsRankedInside (r : Inside) : Type 0 where
  pub numbers : AreNumbers r.model (map (λ ks. ks.items) r.numbering.inputs.items) r.numbering.observed.items
  pub sources : r.numbering.sources ≡ length (source_names r.model)
  pub ranks_are : map Some r.ranks.items ≡ ranks_of r.model
