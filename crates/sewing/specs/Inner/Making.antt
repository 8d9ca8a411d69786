-- The sewn model by tables of names, and the free lead by marks.
use Rattle.std.specs.Prelude.{◌≡◌, ◌+◌, ◌-◌, ◌*◌, ◌^◌, ◌==◌, ◌||◌, ℕ, Bool, List, [], ◌∷◌, min, nat_lt, slice_get, Some, if◌then◌else◌}
use Rattle.std.specs.List.{list_any}
use Rattle.rm_model.specs.Value.{is_among}
use Rattle.rm_model.specs.Words.{is_word}
use Rattle.rm_base.specs.Words.{Word}
use Rattle.sewing.specs.Names.{inner_name, numbered_lead}

-- a name of a part, by the names at its edge
abbrev pub name_by : List Word → Word → ℕ → Word → Word
name_by edge lead k x = if is_among edge x then x else inner_name lead k x

-- THE FREE LEAD

-- a name up to its first `_`, or the whole of it
abbrev pub head_of : Word → Word
head_of [] = []
head_of (b ∷ bs) = if b == 95 then b ∷ [] else b ∷ head_of bs

-- the number with one more digit, up to the greatest that there is; other bytes count for nothing
abbrev pub with_digit : ℕ → ℕ → ℕ
with_digit value b = if nat_lt b 48 then value else if nat_lt 57 b then value else min (2 ^ 64 - 1) (min (2 ^ 64 - 1) (value * 10) + (b - 48))

abbrev pub value_from : ℕ → Word → ℕ
value_from value [] = value
value_from value (b ∷ bs) = value_from (with_digit value b) bs

-- the name begins with that lead
abbrev pub has_lead : ℕ → Word → Bool
has_lead t name = is_word (numbered_lead t) (head_of name)

-- marks after one more name
abbrev pub AreMarkedBy : (ℕ → Bool) → List Bool → List Bool → Type 0
AreMarkedBy test before after = (t : ℕ) (b : Bool) → slice_get after t ≡ Some b → (a : Bool) × ((slice_get before t ≡ Some a) × (b ≡ (a || test t)))

-- each number whose lead begins a name is marked
abbrev pub AreMarks : List Bool → List Word → Type 0
AreMarks marks names = (t : ℕ) (b : Bool) → slice_get marks t ≡ Some b → b ≡ list_any (has_lead t) names

-- the place of the first that isn't marked, or of the end
abbrev pub unmarked_from : ℕ → List Bool → ℕ
unmarked_from t [] = t
unmarked_from t (b ∷ bs) = if b then unmarked_from (t + 1) bs else t
