-- How large the covers of a model are: a number that bounds the wires of its decomposition.
use Rattle.std.specs.Prelude.{◌+◌, ◌*◌, ℕ, List, [], ◌∷◌, length}
use Rattle.rm_model.specs.declared.parts.Literal.{Literal}
use Rattle.rm_model.specs.declared.parts.Cover.{Cover}

-- one for each row, and two for each of its literals
abbrev pub rows_weight : List (List Literal) → ℕ
rows_weight [] = 0
rows_weight (r ∷ rs) = 2 * length r + 1 + rows_weight rs

-- that of the rows, and one for each cover
abbrev pub covers_weight : List Cover → ℕ
covers_weight [] = 0
covers_weight (c ∷ cs) = rows_weight c.rows + 1 + covers_weight cs
