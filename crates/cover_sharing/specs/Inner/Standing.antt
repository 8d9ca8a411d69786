-- What stands for names by the places of the covers that drive them.
use Rattle.std.specs.Prelude.{◌≡◌, ℕ, List, Option, None, Some, slice_index_or, unwrap_or}
use Rattle.rm_model.specs.Numbers.{place_of}
use Rattle.rm_model.specs.declared.parts.Cover.{Cover}
use Rattle.rm_base.specs.Words.{Word}
use Rattle.cover_sharing.specs.Shared.{Sharing, stand_for}

abbrev pub stand_at : List (Option Word) → Option ℕ → Word → Word
stand_at table None x = x
stand_at table (Some k) x = unwrap_or (slice_index_or table k None) x

-- what stands for a name by a table over these outputs
abbrev pub stand_by : List Word → List (Option Word) → Word → Word
stand_by outputs table x = stand_at table (place_of outputs x) x

-- the covers and the table are those of this state
pub record IsShown (outputs : List Word) (s : Sharing) (kept : List Cover) (table : List (Option Word)) : Type 0 where
  pub kept_is : kept ≡ s.kept
  pub stand_is : (x : Word) → stand_for s.stands x ≡ stand_by outputs table x
