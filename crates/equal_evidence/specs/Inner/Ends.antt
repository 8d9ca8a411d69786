-- Where the first line of a text ends.
use Rattle.std.specs.Prelude.{List, length, slice_index, ℕ, ◌<◌, ◌≡◌, ◌≢◌, ◌≤◌}

-- the place of the first LF, or the length
pub record IsEnd (text : List ℕ) (place : ℕ) : Type 0 where
  pub within : place ≤ length text
  pub before : (k : ℕ) → k < place → slice_index text k ≢ 10
  pub is : place < length text → slice_index text place ≡ 10
