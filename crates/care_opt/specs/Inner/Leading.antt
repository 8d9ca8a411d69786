-- Faults of main gates at the front of a list.
use Rattle.std.specs.Prelude.{List, [], if◌then◌else◌, nat_lt, suc, ℕ, ◌∷◌}
use Rattle.rm_base.specs.declared.numbers.Fault.{Fault}

-- how many faults at the front are at gates below the bound
abbrev pub leading : ℕ → List Fault → ℕ
leading bound [] = 0
leading bound (f ∷ fs) = if nat_lt f.gate.0 bound then suc (leading bound fs) else 0
