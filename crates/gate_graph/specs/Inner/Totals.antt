-- Counts over node numbers.
use Rattle.std.specs.Prelude.{ℕ, ◌+◌, List, [], ◌∷◌, Option, Some, None}
use Rattle.gate_net.specs.declared.Kind.{Kind}

-- a count over the live nodes by their kinds
abbrev pub sum_kinds : (Kind → ℕ) → List (Option Kind) → ℕ
sum_kinds count [] = 0
sum_kinds count (None ∷ kinds) = sum_kinds count kinds
sum_kinds count (Some kind ∷ kinds) = count kind + sum_kinds count kinds
