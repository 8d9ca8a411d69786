-- What a search back along the pins has marked.
use Rattle.std.specs.Prelude.{◌≡◌, ℕ, suc, List, [], ◌∷◌, Some, Bool, true, slice_get, if◌then◌else◌, ◌<◌}

abbrev pub IsSeen : List Bool → ℕ → Type 0
IsSeen seen x = slice_get seen x ≡ Some true

-- how many are not marked
abbrev pub unseen : List Bool → ℕ
unseen [] = 0
unseen (b ∷ bs) = if b then unseen bs else suc (unseen bs)

-- each number of the list is below the bound
abbrev pub AreBelow : List ℕ → ℕ → Type 0
AreBelow xs n = (p x : ℕ) → slice_get xs p ≡ Some x → x < n
