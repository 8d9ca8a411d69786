-- Levels of an acyclic model's covers.
use Rattle.std.specs.Prelude.{◌≡◌, ◌<◌, ℕ, length, Some, slice_get}
use Rattle.rm_base.specs.Members.{In}
use Rattle.rm_base.specs.Words.{Word}
use Rattle.rm_model.specs.Ranks.{cover_of}
use Rattle.rm_model.specs.declared.parts.Cover.{Cover}
use Rattle.rm_model.specs.declared.parts.Model.{Model}

-- each cover's level is below the number of covers, and above the levels of the covers that it reads
pub record IsLevelled (m : Model) (level : ℕ → ℕ) : Type 0 where
  pub small : (k : ℕ) (c : Cover) → slice_get m.covers k ≡ Some c → level k < length m.covers
  pub lower : (k j : ℕ) (c : Cover) (x : Word) → slice_get m.covers k ≡ Some c → In c.inputs x → cover_of m.covers x ≡ Some j → level j < level k
