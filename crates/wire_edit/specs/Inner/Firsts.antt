-- The first number that passes a test.
use Rattle.std.specs.Prelude.{◌≡◌, ℕ, ◌<◌, Bool, true, false, ◌&&◌, Option, Some, None}
use Rattle.gate_net.specs.Net.{Net}
use Rattle.wire_edit.specs.declared.steps.Step.{Step}
use Rattle.wire_edit.specs.declared.steps.Step.TheVariants.{Const, Same}
use Rattle.wire_edit.specs.Tests.{is_present, is_not, constant_at, driver_at}
use Rattle.wire_edit.specs.Steps.{same_some}

-- the least number below the count that passes, if one does
abbrev pub IsFirst : (ℕ → Bool) → ℕ → Option ℕ → Type 0
IsFirst test count None = (k : ℕ) → k < count → test k ≡ false
IsFirst test count (Some k) = (k < count) × ((test k ≡ true) × ((j : ℕ) → j < k → test j ≡ false))

abbrev pub reads_constant : Net → ℕ → ℕ → Bool
reads_constant net gate position = is_present (constant_at net gate position)

-- no pin of the gate reads a constant
abbrev pub ReadsNoConstant : Net → ℕ → Type 0
ReadsNoConstant net gate = (position : ℕ) → reads_constant net gate position ≡ false

-- the gate of a `Same` reads no constant, and that of a `Const` none before its position
abbrev pub IsPlainAfter : Net → Step → Type 0
IsPlainAfter net (Same gate position) = ReadsNoConstant net gate.0
IsPlainAfter net (Const gate position) = (k : ℕ) → k < position → reads_constant net gate.0 k ≡ false
IsPlainAfter net _ = Unit {0}

-- a Not with the driver of that Not
abbrev pub is_twin : Net → ℕ → ℕ → Bool
is_twin net gate other = is_not net other && same_some (driver_at net gate 0) (driver_at net other 0)
