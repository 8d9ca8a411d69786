-- What makes a model ready to be decomposed.
use Rattle.std.specs.Prelude.{◌≡◌, ◌<◌, ℕ, None, length}
use Rattle.rm_model.specs.Ranks.{first_without_rank}
use Rattle.rm_model.specs.Value.{observed_names, source_names}
use Rattle.rm_model.specs.WellFormed.{IsWellFormed}
use Rattle.rm_model.specs.declared.parts.Model.{Model}
use Rattle.cover_decompose.specs.Count.{decomposed}
use Rattle.demo_generator.specs.Generator.{model_of_seed}
use Rattle.cover_decompose.specs.Limits.{most_pins}

pub record IsReady (m : Model) : Type 0 where
  pub formed : IsWellFormed m
  pub ranked : first_without_rank m ≡ None
  pub covers : length m.covers ≡ 60
  pub sources : length (source_names m) ≡ 16
  pub observed : length (observed_names m) ≡ 8
  pub fits : decomposed m < most_pins

-- each drawn model is
abbrev pub AreReady : Type 0
AreReady = (seed : ℕ) → IsReady (model_of_seed seed)
