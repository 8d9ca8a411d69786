-- Models whose decomposition can be counted and numbered.
use Rattle.std.specs.Prelude.{◌<◌, ◌≤◌, ◌^◌, length}
use Rattle.rm_model.specs.Size.{covers_weight}
use Rattle.rm_model.specs.Value.{source_names, observed_names}
use Rattle.rm_model.specs.declared.parts.Model.{Model}
use Rattle.cover_decompose.specs.Count.{decomposed}

abbrev pub WiresAreBounded : Type 0
WiresAreBounded = (m : Model) → decomposed m ≤ covers_weight m.covers

-- so few covers, points and literals that the decomposition can be counted and numbered
pub record IsSmall (m : Model) : Type 0 where
  pub covers : length m.covers < 2 ^ 32
  pub sources : length (source_names m) ≤ 1024
  pub observed : length (observed_names m) ≤ 4096
  pub weight : covers_weight m.covers < 2 ^ 64
