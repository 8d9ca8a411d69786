-- What the code makes of modules.
use Rattle.std.specs.Prelude.{◌≡◌, ◌+◌, List, ◌++◌}
use Rattle.rm_base.specs.Words.{Word}
use Rattle.blif_flatten.specs.declared.modules.Module.{Module}
use Rattle.blif_flatten.specs.declared.flattening.Flattened.{Flattened}
use Rattle.blif_flatten.specs.Instances.{whole, instance_count}
use Rattle.blif_flatten.specs.Flat.{flat_model, places_in}

-- the flat model of the top and its calls
pub record IsFlatOf (before : Word) (modules : List Module) (top : Module) (f : Flattened) : Type 0 where
  pub model : f.model ≡ flat_model before top.model (whole modules top.links)
  pub places : f.places ≡ top.places ++ places_in (whole modules top.links)
  pub instances : f.instances ≡ 1 + instance_count (whole modules top.links)
