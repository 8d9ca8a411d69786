-- Beside Value.antt: what only private contracts, invariants and laws speak of.
use Rattle.std.specs.Prelude.{ℕ, Bool, false, List, [], ◌∷◌, max, suc}
use Rattle.std.specs.Prelude.{if◌then◌else◌}
use Rattle.rm_model.specs.Words.{is_word}
use Rattle.rm_model.specs.declared.parts.Cover.{Cover}
use Rattle.rm_base.specs.Words.{Word}

-- the value at the place of a name in the list of names, and false where it has none
abbrev pub assigned_value : List Word → List Bool → Word → Bool
assigned_value [] bs x = false
assigned_value (y ∷ ys) [] x = false
assigned_value (y ∷ ys) (b ∷ bs) x = if is_word x y then b else assigned_value ys bs x

-- a number above the ranks of all covers
abbrev pub rank_bound : (Word → ℕ) → List Cover → ℕ
rank_bound rank [] = 0
rank_bound rank (c ∷ cs) = max (suc (rank c.output)) (rank_bound rank cs)
