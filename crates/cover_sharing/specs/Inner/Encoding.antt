-- A cover's inputs, ending and rows as bytes, by which equal covers are looked up: different ones have different bytes.
use Rattle.std.specs.Prelude.{ℕ, Bool, List, [], ◌∷◌, ◌++◌, map, nat_lt, if◌then◌else◌}
use Rattle.std.specs.List.{flat_map}
use Rattle.rm_model.specs.Words.{literal_byte}
use Rattle.rm_model.specs.declared.parts.Literal.{Literal}
use Rattle.rm_model.specs.declared.parts.Cover.{Cover}
use Rattle.rm_base.specs.Words.{Word}

-- 0 and 1 stand behind a 1, so that another 0 ends a name
abbrev pub encoded_byte : ℕ → List ℕ
encoded_byte b = if nat_lt b 2 then 1 ∷ b ∷ [] else b ∷ []

abbrev pub encoded_name : Word → List ℕ
encoded_name x = 1 ∷ (flat_map encoded_byte x ++ 0 ∷ [])

abbrev pub encoded_names : List Word → List ℕ
encoded_names xs = flat_map encoded_name xs

abbrev pub encoded_ending : Bool → ℕ
encoded_ending on = if on then 49 else 48

abbrev pub encoded_row : List Literal → List ℕ
encoded_row r = map literal_byte r ++ 10 ∷ []

abbrev pub encoded_rows : List (List Literal) → List ℕ
encoded_rows rows = flat_map encoded_row rows

abbrev pub encoding_of : Cover → List ℕ
encoding_of c = encoded_names c.inputs ++ (0 ∷ encoded_ending c.on ∷ encoded_rows c.rows)
