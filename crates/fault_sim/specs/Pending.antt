-- Pending places of an order, 64 to a word.
use Rattle.std.specs.Prelude.{Bool, List, false, slice_index, true, ℕ, ◌%◌, ◌/◌, ◌≡◌}
use Rattle.fault_sim.specs.Words.{lane}

-- whether the place is pending
abbrev pub is_pending : List ℕ → ℕ → Bool
is_pending pending k = lane (k % 64) (slice_index pending (k / 64))

abbrev pub IsPending : List ℕ → ℕ → Type 0
IsPending pending k = is_pending pending k ≡ true

abbrev pub IsIdle : List ℕ → ℕ → Type 0
IsIdle pending k = is_pending pending k ≡ false
