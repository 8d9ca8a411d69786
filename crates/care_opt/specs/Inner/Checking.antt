-- Why a care model, or one of two models, is refused.
use Rattle.std.specs.Prelude.{Bool, Some, ◌<◌, ◌≡◌}
use Rattle.cover_decompose.specs.Count.{decomposed}
use Rattle.cover_decompose.specs.Limits.{most_pins}
use Rattle.joined_nets.specs.Ready.{first_difference}
use Rattle.rm_model.specs.Value.{source_names}
use Rattle.rm_model.specs.declared.parts.Model.{Model}
use Rattle.care_opt.specs.EquivalentOn.{HasCareShape}
use Rattle.care_opt.specs.declared.refusal.CareRefusal.{CareRefusal}
use Rattle.care_opt.specs.declared.refusal.CareRefusal.TheVariants.{Limit, NoMemory, Shape, UnlikeSources}

-- it isn't a care model over the sources of the other
abbrev pub IsUnfit : Model → Model → CareRefusal → Type 0
IsUnfit m c Shape = HasCareShape c → ⊥
IsUnfit m c (UnlikeSources at) = HasCareShape c × (first_difference (source_names m) (source_names c) ≡ Some at)
IsUnfit m c (Limit second pins) = ⊥
IsUnfit m c NoMemory = Unit {0}

-- the model has too many wires
abbrev pub IsLimit : Model → Bool → CareRefusal → Type 0
IsLimit m second (Limit which pins) = (which ≡ second) × ((most_pins < decomposed m) × (pins ≡ decomposed m))
IsLimit m second NoMemory = Unit {0}
IsLimit m second Shape = ⊥
IsLimit m second (UnlikeSources at) = ⊥
