-- The names in a sewn model: those at the edge of a part stay, and the inner ones get a lead that no kept name begins with.
use Rattle.std.specs.Prelude.{◌≡◌, ◌+◌, ℕ, zero, suc, Bool, true, not, List, [], ◌∷◌, ◌++◌, length, if◌then◌else◌}
use Rattle.std.specs.List.{list_all, list_any, starts_with}
use Rattle.std.specs.Bool.{nat_eq}
use Rattle.std.specs.Fmt.{decimal}
use Rattle.rm_model.specs.Value.{is_among}
use Rattle.rm_model.specs.declared.parts.Model.{Model}
use Rattle.rm_base.specs.Words.{Word, is_word_byte}

-- the names at which a part meets the rest
abbrev pub edge_names : Model → List Word
edge_names p = p.inputs ++ p.outputs

-- the lead, the part's number and `_` before a name
abbrev pub inner_name : Word → ℕ → Word → Word
inner_name lead k x = lead ++ (decimal k ++ 95 ∷ x)

abbrev pub sewn_name : Word → ℕ → Model → Word → Word
sewn_name lead k p x = if is_among (edge_names p) x then x else inner_name lead k x

-- no name begins with it
abbrev pub is_free : List Word → Word → Bool
is_free names lead = not (list_any (λ x. starts_with nat_eq x lead) names)

-- what may stand before the inner names
pub record IsLead (names : List Word) (lead : Word) : Type 0 where
  pub free : is_free names lead ≡ true
  pub bytes : list_all is_word_byte lead ≡ true

-- `w`, a number and `_`
abbrev pub numbered_lead : ℕ → Word
numbered_lead t = 119 ∷ (decimal t ++ 95 ∷ [])

-- the least number from t on that makes a free lead, of so many tries
abbrev pub free_from : ℕ → List Word → ℕ → ℕ
free_from zero names t = t
free_from (suc n) names t = if is_free names (numbered_lead t) then t else free_from n names (t + 1)

-- each name begins with one such lead at most, so as many tries as names are enough
abbrev pub free_number : List Word → ℕ
free_number names = free_from (length names) names 0

abbrev pub free_lead : List Word → Word
free_lead names = numbered_lead (free_number names)
