-- The numbers with which names begin.
use Rattle.std.specs.Prelude.{◌≡◌, ◌+◌, ◌-◌, ◌*◌, ◌^◌, ℕ, Bool, false, List, [], ◌∷◌, ◌||◌, min, slice_get, Option, None, Some, if◌then◌else◌}
use Rattle.std.specs.List.{list_any}
use Rattle.std.specs.Fmt.{decimal}
use Rattle.rm_base.specs.Words.{Word}
use Rattle.rm_model.specs.Words.{is_word}
use Rattle.blif_flatten.specs.Calls.{sides_at}

-- the number with one more digit, up to the greatest that there is
abbrev pub with_digit : ℕ → ℕ → ℕ
with_digit value b = min (2 ^ 64 - 1) (min (2 ^ 64 - 1) (value * 10) + (b - 48))

abbrev pub value_from : ℕ → Word → ℕ
value_from value [] = value
value_from value (b ∷ bs) = value_from (with_digit value b) bs

-- `s` and a number
abbrev pub head : ℕ → Word
head t = 115 ∷ decimal t

abbrev pub is_head : ℕ → Option (Word × Word) → Bool
is_head t None = false
is_head t (Some p) = is_word (head t) p.0

-- `s` and the number stand before the first `_` of the name
abbrev pub has_number : ℕ → Word → Bool
has_number t name = is_head t (sides_at 95 name)

-- marks after one more name
abbrev pub AreMarkedBy : (ℕ → Bool) → List Bool → List Bool → Type 0
AreMarkedBy test before after = (t : ℕ) (b : Bool) → slice_get after t ≡ Some b → (a : Bool) × ((slice_get before t ≡ Some a) × (b ≡ (a || test t)))

-- each number with which a name begins is marked
abbrev pub AreMarks : List Bool → List Word → Type 0
AreMarks marks names = (t : ℕ) (b : Bool) → slice_get marks t ≡ Some b → b ≡ list_any (has_number t) names

-- the place of the first that isn't marked, or of the end
abbrev pub unmarked_from : ℕ → List Bool → ℕ
unmarked_from t [] = t
unmarked_from t (b ∷ bs) = if b then unmarked_from (t + 1) bs else t
