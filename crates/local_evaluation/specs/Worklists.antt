-- Node numbers that are to be looked at, each at most once.
use Rattle.std.specs.Prelude.{Bool, List, None, Option, Some, [], false, if◌then◌else◌, length, slice_get, slice_index, slice_set, suc, ℕ, ◌+◌, ◌<◌, ◌∷◌, ◌≡◌}
use Rattle.gate_graph.specs.Search.{IsSeen, unseen}
use Rattle.rm_base.specs.declared.numbers.NodeId.{NodeId}

-- how many are marked
abbrev pub seen_count : List Bool → ℕ
seen_count [] = 0
seen_count (b ∷ bs) = if b then suc (seen_count bs) else seen_count bs

-- the first numbers of the queue are the marked ones, each once, and there is room for the others
pub record IsWorklist (marks : List Bool) (queue : List ℕ) (count : ℕ) : Type 0 where
  pub size : length queue ≡ length marks
  pub room : count + unseen marks ≡ length marks
  pub listed : (z : ℕ) → IsSeen marks z → (k : ℕ) × ((k < count) × (slice_index queue k ≡ z))
  pub marked : (k : ℕ) → k < count → IsSeen marks (slice_index queue k)
  pub once : (k l : ℕ) → k < count → l < count → slice_index queue k ≡ slice_index queue l → k ≡ l

-- a number was taken from the worklist, or None where it is empty
abbrev pub IsTaken : List Bool → List Bool → Option NodeId → Type 0
IsTaken old new None = (new ≡ old) × ((z : ℕ) → IsSeen old z → ⊥)
IsTaken old new (Some d) = IsSeen old d.0 × (new ≡ slice_set old d.0 false)

-- the list has exactly the marked numbers, each once
pub record ListsMarked (marks : List Bool) (numbers : List ℕ) : Type 0 where
  pub sound : (k z : ℕ) → slice_get numbers k ≡ Some z → IsSeen marks z
  pub all : (z : ℕ) → IsSeen marks z → (k : ℕ) × (slice_get numbers k ≡ Some z)
  pub once : (k l z : ℕ) → slice_get numbers k ≡ Some z → slice_get numbers l ≡ Some z → k ≡ l
