-- The first cover without rank, by the places of the covers in the text.
use Rattle.std.specs.Prelude.{ℕ, List, slice_get, Option, None, Some}
use Rattle.std.specs.Option.{option_map}
use Rattle.rm_base.specs.declared.numbers.Place.{Place}
use Rattle.rm_model.specs.Ranks.{first_without_rank}
use Rattle.rm_model.specs.declared.parts.Model.{Model}
use Rattle.blif_format.specs.declared.refusal.FaultKind.TheVariants.{NoRank}
use Rattle.blif_format.specs.declared.refusal.ReadRefusal.{ReadRefusal}
use Rattle.blif_format.specs.declared.refusal.ReadRefusal.TheVariants.{Fault}

abbrev pub fault_at : List Place → Option ℕ → Option ReadRefusal
fault_at places None = None
fault_at places (Some k) = option_map (λ (place : Place). Fault NoRank place) (slice_get places k)

abbrev pub rank_found : Model → List Place → Option ReadRefusal
rank_found m places = fault_at places (first_without_rank m)
