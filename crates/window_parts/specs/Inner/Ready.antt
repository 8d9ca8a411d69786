-- A model that can be decomposed and whose steps can be made again.
use Rattle.std.specs.Prelude.{◌≡◌, ◌+◌, ◌≤◌, ◌<◌, ◌^◌, None, length}
use Rattle.rm_model.specs.Ranks.{first_without_rank}
use Rattle.rm_model.specs.Value.{IsRanked, observed_names, source_names}
use Rattle.rm_model.specs.WellFormed.{IsWellFormed}
use Rattle.rm_model.specs.declared.parts.Model.{Model}
use Rattle.cover_decompose.specs.Count.{decomposed}
use Rattle.cover_decompose.specs.Limits.{most_pins}

pub record IsReady (m : Model) : Type 0 where
  pub formed : IsWellFormed m
  pub ranked : IsRanked m
  pub ranks : first_without_rank m ≡ None
  pub covers : length m.covers < 2 ^ 32
  pub sources : length (source_names m) ≤ 1024
  pub observed : length (observed_names m) ≤ 4096
  pub few : decomposed m ≤ most_pins

-- so few inputs, outputs and covers as a run can take
pub record HasFewSignals (w : Model) : Type 0 where
  pub inputs : length w.inputs ≤ 1024
  pub outputs : length w.outputs ≤ 4096
  pub signals : length w.inputs + length w.covers < 2 ^ 32
