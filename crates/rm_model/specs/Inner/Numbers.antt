-- Beside Numbers.antt: what only private contracts, invariants and laws speak of.
use Rattle.std.specs.Prelude.{◌≡◌, ℕ, suc, List, map, Option}
use Rattle.std.specs.List.{filter_map}
use Rattle.std.specs.Option.{option_map}
use Rattle.rm_model.specs.Ranks.{cover_of, rank_at, highest}
use Rattle.rm_model.specs.declared.parts.Cover.{Cover}

-- the covers that a cover reads, by their places
abbrev pub drivers_of : List Cover → Cover → List ℕ
drivers_of covers c = filter_map (cover_of covers) c.inputs

-- the rank of a cover that reads these covers and sources
abbrev pub rank_over : List (Option ℕ) → List ℕ → Option ℕ
rank_over ranks drivers = highest (map (λ d. option_map (λ n. suc n) (rank_at ranks d)) drivers)

-- each rank follows from the others, by the covers that are read
abbrev pub IsFixed : List Cover → List (Option ℕ) → Type 0
IsFixed covers ranks = ranks ≡ map (λ c. rank_over ranks (drivers_of covers c)) covers
