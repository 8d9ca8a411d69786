-- A count of faults that rises after a call rises over both.
use Rattle.std.proofs.Common.{ℕ, ◌≤◌, arith}
use Rattle.rm_base.specs.Causes.{Rose}

pub risen_after : (before mid now : ℕ) → before ≤ mid → Rose mid now → Rose before now
risen_after before mid now first later = omega (arith, first, later)
