-- Beside Pending.antt: what only private contracts, invariants and laws speak of.
use Rattle.std.specs.Prelude.{List, None, Option, Some, false, length, true, ℕ, ◌+◌, ◌/◌, ◌<◌, ◌≡◌, ◌≢◌, ◌≤◌}
use Rattle.fault_sim.specs.Words.{lane}
use Rattle.fault_sim.specs.Pending.{is_pending, IsPending, IsIdle}

-- there are words for so many places
abbrev pub HasRoom : List ℕ → ℕ → Type 0
HasRoom pending places = length pending ≡ places / 64 + 1

-- the place is pending, and all others are as before
pub record IsMarked (old new : List ℕ) (place : ℕ) : Type 0 where
  pub size : length new ≡ length old
  pub here : IsPending new place
  pub others : (k : ℕ) → k ≢ place → is_pending new k ≡ is_pending old k

-- the place isn't pending, and all others are as before
pub record IsUnmarked (old new : List ℕ) (place : ℕ) : Type 0 where
  pub size : length new ≡ length old
  pub here : IsIdle new place
  pub others : (k : ℕ) → k ≢ place → is_pending new k ≡ is_pending old k

-- the first bit that is set, from that one on
abbrev pub IsFirstBit : ℕ → ℕ → Option ℕ → Type 0
IsFirstBit word from None = (i : ℕ) → from ≤ i → lane i word ≡ false
IsFirstBit word from (Some b) = (from ≤ b) × ((b < 64) × ((lane b word ≡ true) × ((i : ℕ) → from ≤ i → i < b → lane i word ≡ false)))

-- the first pending place from that one on
abbrev pub IsFirstPending : List ℕ → ℕ → Option ℕ → Type 0
IsFirstPending pending from None = (k : ℕ) → from ≤ k → IsIdle pending k
IsFirstPending pending from (Some p) = (from ≤ p) × (IsPending pending p × ((k : ℕ) → from ≤ k → k < p → IsIdle pending k))
