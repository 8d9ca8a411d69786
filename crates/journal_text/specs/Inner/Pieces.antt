-- Beside Pieces.antt: what only private contracts, invariants and laws speak of.
use Rattle.std.specs.Prelude.{◌≡◌, ◌≢◌, ℕ, ◌<◌, ◌≤◌, Bool, true, false, List, [], length, slice_index}
use Rattle.rm_base.specs.Words.{Word}
use Rattle.journal_text.specs.Pieces.{pieces}

-- the words that are left, where there are more
abbrev pub left_in : Bool → ℕ → List ℕ → List Word
left_in false c bytes = []
left_in true c bytes = pieces c bytes

-- the first such byte from one place on, or the length
pub record IsPlaceOf (c : ℕ) (bytes : List ℕ) (from place : ℕ) : Type 0 where
  pub after : from ≤ place
  pub within : place ≤ length bytes
  pub before : (k : ℕ) → from ≤ k → k < place → slice_index bytes k ≢ c
  pub is : place < length bytes → slice_index bytes place ≡ c
