-- The depth at which learning ends.
use Rattle.std.specs.Prelude.{None, Option, Some, ℕ, ◌≤◌}
use Rattle.gate_net.specs.Net.{Net}
use Rattle.recursive_learning.specs.Least.{IsLeastAt}
use Rattle.refutation.specs.Facts.{Held}
use Rattle.refutation.specs.Learning.{LeadsToClash}
use Rattle.rm_base.specs.declared.numbers.Fault.{Fault}

-- a clash at that depth or before it, or the least closed set
abbrev pub IsDeepened : Net → Fault → ℕ → Held → Option ℕ → Held → Type 0
IsDeepened net fault depth start None now = IsLeastAt net fault depth start now
IsDeepened net fault depth start (Some level) now = (level ≤ depth) × LeadsToClash net fault level start
