-- Why a model is not decomposed.
use Rattle.std.specs.Prelude.{◌≡◌, ◌<◌}
use Rattle.rm_model.specs.declared.parts.Model.{Model}
use Rattle.cover_decompose.specs.Count.{decomposed}
use Rattle.cover_decompose.specs.declared.model_graph.DecomposeRefusal.{DecomposeRefusal}
use Rattle.cover_decompose.specs.declared.model_graph.DecomposeRefusal.TheVariants.{Limit, NoMemory}
use Rattle.cover_decompose.specs.Limits.{most_pins}

-- the number of wires is over the limit; want of memory may come at any model
abbrev pub IsRefused : Model → DecomposeRefusal → Type 0
IsRefused m (Limit pins) = (most_pins < decomposed m) × (pins ≡ decomposed m)
IsRefused m NoMemory = Unit {0}
