-- Why a model isn't optimised under a care model.
use Rattle.std.specs.Prelude.{Some, false, true, ◌<◌, ◌≡◌, ◌≤◌}
use Rattle.cover_decompose.specs.Count.{decomposed}
use Rattle.cover_decompose.specs.Limits.{most_pins}
use Rattle.joined_nets.specs.Ready.{first_difference}
use Rattle.rm_model.specs.Value.{source_names}
use Rattle.rm_model.specs.declared.parts.Model.{Model}
use Rattle.care_opt.specs.EquivalentOn.{HasCareShape, IsCareOf}
use Rattle.care_opt.specs.declared.refusal.CareRefusal.{CareRefusal}
use Rattle.care_opt.specs.declared.refusal.CareRefusal.TheVariants.{Limit, NoMemory, Shape, UnlikeSources}

-- the care model has another shape; or the sources differ at that place first; then the first model that has too many wires; want
-- of memory may come at any models
abbrev pub IsCareRefused : Model → Model → CareRefusal → Type 0
IsCareRefused m c Shape = HasCareShape c → ⊥
IsCareRefused m c (UnlikeSources at) = HasCareShape c × (first_difference (source_names m) (source_names c) ≡ Some at)
IsCareRefused m c (Limit false pins) = IsCareOf m c × ((most_pins < decomposed m) × (pins ≡ decomposed m))
IsCareRefused m c (Limit true pins) = IsCareOf m c × ((decomposed m ≤ most_pins) × ((most_pins < decomposed c) × (pins ≡ decomposed c)))
IsCareRefused m c NoMemory = Unit {0}

-- the models have none of these faults
pub record CanCare (m c : Model) : Type 0 where
  pub cares : IsCareOf m c
  pub within : decomposed m ≤ most_pins
  pub care_within : decomposed c ≤ most_pins
