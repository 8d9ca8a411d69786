-- Why a model has no ranks.
use Rattle.std.specs.Prelude.{◌≡◌, ℕ, Option, Some}
use Rattle.rm_model.specs.declared.ranking.RankFault.{RankFault}
use Rattle.rm_model.specs.declared.ranking.RankFault.TheVariants.{NoRank, NoMemory}

-- a cover is named only where it is the first without rank
abbrev pub IsRefused : Option ℕ → RankFault → Type 0
IsRefused first (NoRank k) = first ≡ Some k
IsRefused first NoMemory = Unit {0}
