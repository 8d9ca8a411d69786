-- The lists of what rests on a place, linked through their entries.
use Rattle.std.specs.Prelude.{List, Some, length, slice_get, slice_index, suc, ℕ, ◌<◌, ◌≡◌, ◌≤◌}
use Rattle.recursive_learning.specs.declared.resting.Rest.{Rest}

-- the number of the last one of the place among the first n entries, counted from 1, or 0 where there is none
pub record IsLast (entries : List Rest) (z n at : ℕ) : Type 0 where
  pub within : at ≤ n
  pub there : (k : ℕ) → at ≡ suc k → (e : Rest) × ((slice_get entries k ≡ Some e) × (e.place ≡ z))
  pub none : (k : ℕ) (e : Rest) → slice_get entries k ≡ Some e → k < n → e.place ≡ z → k < at

-- each place has its last entry, and each entry the one of its place before it
pub record IsIndex (entries : List Rest) (last : List ℕ) : Type 0 where
  pub lasts : (z : ℕ) → z < length last → IsLast entries z (length entries) (slice_index last z)
  pub befores : (k : ℕ) (e : Rest) → slice_get entries k ≡ Some e → IsLast entries e.place k e.before
  pub places : (k : ℕ) (e : Rest) → slice_get entries k ≡ Some e → e.place < length last
  pub gates : (k : ℕ) (e : Rest) → slice_get entries k ≡ Some e → e.gate < length last
