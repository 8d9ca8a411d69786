-- The limits on what a model holds, which are those on a text.
use Rattle.std.specs.Prelude.{◌≡◌, ◌≤◌, true, Bool, not, nat_lt, length, All}
use Rattle.std.specs.List.{list_all}
use Rattle.rm_model.specs.Value.{source_names, observed_names}
use Rattle.rm_model.specs.WellFormed.{driven_names}
use Rattle.rm_model.specs.declared.parts.Cover.{Cover}
use Rattle.rm_model.specs.declared.parts.Model.{Model}
use Rattle.rm_base.specs.Words.{Word}

-- a name of at most 1,024 bytes
abbrev pub is_short : Word → Bool
is_short x = not (nat_lt 1024 (length x))

pub record IsWithinLimits (m : Model) : Type 0 where
  pub title : length m.name ≤ 1024
  pub names : list_all is_short (driven_names m) ≡ true
  pub inputs : All (λ (c : Cover). length c.inputs ≤ 65536) m.covers
  pub sources : length (source_names m) ≤ 1024
  pub observed : length (observed_names m) ≤ 4096
  pub signals : length (driven_names m) ≤ 131072
