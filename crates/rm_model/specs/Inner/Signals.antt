-- Beside Signals.antt: what only private contracts, invariants and laws speak of.
use Rattle.std.specs.Prelude.{◌-◌, ℕ, Option, None, Some, nat_lt, if◌then◌else◌}

-- the place of the cover that drives a signal, behind so many sources
abbrev pub cover_at : ℕ → ℕ → Option ℕ
cover_at sources k = if nat_lt k sources then None else Some (k - sources)
