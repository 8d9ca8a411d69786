-- Marks on numbers, and what is in some of several lists.
use Rattle.std.specs.Prelude.{ℕ, suc, Bool, false, ◌||◌, if◌then◌else◌, List, [], ◌∷◌, slice_index_or}
use Rattle.pin_pool.specs.Ring.{has}

abbrev pub is_marked : List Bool → ℕ → Bool
is_marked marks q = slice_index_or marks q false

-- whether q is in one of the lists
abbrev pub is_listed : ℕ → List (List ℕ) → Bool
is_listed q [] = false
is_listed q (xs ∷ lists) = has q xs || is_listed q lists

-- the numbers from first on without a mark
abbrev pub unmarked_from : ℕ → List Bool → List ℕ
unmarked_from first [] = []
unmarked_from first (b ∷ marks) = if b then unmarked_from (suc first) marks else first ∷ unmarked_from (suc first) marks
