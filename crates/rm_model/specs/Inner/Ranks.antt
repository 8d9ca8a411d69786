-- Beside Ranks.antt: what only private contracts, invariants and laws speak of.
use Rattle.std.specs.Prelude.{◌≡◌, ℕ, List, Some, slice_get}
use Rattle.rm_model.specs.declared.parts.Cover.{Cover}
use Rattle.rm_base.specs.Words.{Word}

-- the cover at that place has the name as its output
pub record Drives (cs : List Cover) (x : Word) (k : ℕ) : Type 0 where
  pub cover : Cover
  pub there : slice_get cs k ≡ Some cover
  pub drives : x ≡ cover.output
