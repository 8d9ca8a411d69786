-- The number of wires of a decomposition, summed over the needed covers.
use Rattle.std.specs.Prelude.{ℕ, zero, suc, ◌+◌, Bool, true, false, List, [], ◌∷◌, length, sum_by, Option, None, Some, if◌then◌else◌}
use Rattle.std.specs.List.{flat_map}
use Rattle.rm_model.specs.Value.{is_among}
use Rattle.rm_model.specs.declared.parts.Literal.{Literal}
use Rattle.rm_model.specs.declared.parts.Literal.TheVariants.{Zero, One, Any}
use Rattle.rm_model.specs.declared.parts.Cover.{Cover}
use Rattle.rm_model.specs.declared.parts.Model.{Model}
use Rattle.cover_decompose.specs.Needed.{taken}
use Rattle.cover_decompose.specs.Parity.{parity_ending}
use Rattle.rm_base.specs.Words.{Word}

abbrev pub is_read : Literal → Bool
is_read Any = false
is_read Zero = true
is_read One = true

abbrev pub literal_count : List Literal → ℕ
literal_count [] = 0
literal_count (l ∷ ls) = if is_read l then suc (literal_count ls) else literal_count ls

-- two or more are joined by a gate, with a wire for each
abbrev pub joining : ℕ → ℕ
joining zero = 0
joining (suc zero) = 0
joining (suc (suc n)) = suc (suc n)

-- two for a parity cover, and one more if a Not closes it; else the literals of rows with two or more, the rows where there are two or more, and one where the rows end in 0
abbrev pub wires_by : Option Bool → Cover → ℕ
wires_by (Some ends) c = 2 + (if ends then 0 else 1)
wires_by None c = (sum_by (λ row. joining (literal_count row)) c.rows + joining (length c.rows)) + (if c.on then 0 else 1)

abbrev pub cover_wires : Cover → ℕ
cover_wires c = wires_by (parity_ending c) c

-- the names that a row reads as 0
abbrev pub zero_names : List Word → List Literal → List Word
zero_names (x ∷ xs) (Zero ∷ ls) = x ∷ zero_names xs ls
zero_names (x ∷ xs) (One ∷ ls) = zero_names xs ls
zero_names (x ∷ xs) (Any ∷ ls) = zero_names xs ls
zero_names [] ls = []
zero_names (x ∷ xs) [] = []

-- no name of a parity cover is read through a Not
abbrev pub zero_names_by : Option Bool → Cover → List Word
zero_names_by (Some ends) c = []
zero_names_by None c = flat_map (zero_names c.inputs) c.rows

abbrev pub cover_zero_names : Cover → List Word
cover_zero_names c = zero_names_by (parity_ending c) c

-- how many names there are beside some earlier ones, each counted once
abbrev pub new_count : List Word → List Word → ℕ
new_count earlier [] = 0
new_count earlier (x ∷ xs) = if is_among earlier x then new_count earlier xs else suc (new_count (x ∷ earlier) xs)

-- the wires of the needed covers, and one for each signal that one of them reads as 0, leaving out parity covers
abbrev pub decomposed : Model → ℕ
decomposed m = sum_by cover_wires (taken m) + new_count [] (flat_map cover_zero_names (taken m))
