-- Drivers of an And or an Or that differs.
use Rattle.std.specs.Prelude.{Bool, List, None, Option, Some, slice_get, true, ℕ, ◌≡◌, ◌≢◌}
use Rattle.refutation.specs.Facts.{Held, known_equal, known_good}
use Rattle.refutation.specs.Lines.{IsStuckPin}
use Rattle.rm_base.specs.declared.numbers.Fault.{Fault}
use Rattle.rm_base.specs.declared.numbers.NodeId.{NodeId}

-- the driver is equal, and its good value isn't known to be this
abbrev pub IsOpenSide : Held → ℕ → Bool → Type 0
IsOpenSide held d value = (known_equal held d ≡ Some true) × (known_good held d ≢ Some value)

-- and the pin isn't the stuck one
abbrev pub IsOpenPin : Fault → Held → ℕ → ℕ → ℕ → Bool → Type 0
IsOpenPin fault held y q d value = (IsStuckPin fault y q → ⊥) × IsOpenSide held d value

-- such a pin with its driver, or None where there is none
abbrev pub IsSide : List ℕ → Fault → Held → ℕ → Bool → Option (ℕ × NodeId) → Type 0
IsSide ds fault held y value None = (q d : ℕ) → slice_get ds q ≡ Some d → IsOpenPin fault held y q d value → ⊥
IsSide ds fault held y value (Some p) = (slice_get ds p.0 ≡ Some p.1.0) × IsOpenPin fault held y p.0 p.1.0 value
