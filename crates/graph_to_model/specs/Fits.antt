-- When a net may be written as a model with the names of another.
use Rattle.std.specs.Prelude.{◌≡◌, length}
use Rattle.rm_model.specs.Value.{source_names, observed_names}
use Rattle.rm_model.specs.declared.parts.Model.{Model}
use Rattle.gate_net.specs.Net.{Net, source_count}
use Rattle.cover_decompose.specs.StandsFor.{HasPoints}

-- as many sources and observed points, equal observed names on one node, and a source's own name on its node
pub record Fits (net : Net) (m : Model) : Type 0 where
  pub sources : source_count net ≡ length (source_names m)
  pub observed : length net.observed ≡ length (observed_names m)
  pub points : HasPoints net m
