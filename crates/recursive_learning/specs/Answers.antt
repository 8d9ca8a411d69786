-- What refuting a fault at a depth answers.
use Rattle.std.specs.Prelude.{length, ℕ, ◌≤◌}
use Rattle.gate_net.specs.Net.{Net}
use Rattle.implications.specs.declared.outcome.Closed.{Closed}
use Rattle.implications.specs.declared.outcome.Closed.TheVariants.{Clash, Open}
use Rattle.recursive_learning.specs.Least.{IsLeastAt}
use Rattle.refutation.specs.Branches.{AreAccepted}
use Rattle.refutation.specs.FactSets.{held_by}
use Rattle.refutation.specs.Facts.{none_held}
use Rattle.refutation.specs.Learning.{LeadsToClash}
use Rattle.rm_base.specs.declared.numbers.Fault.{Fault}

-- a clash at the depth with an accepted closed tree, or the least set that is closed at the depth
abbrev pub IsRefuting : Net → Fault → ℕ → Closed → Type 0
IsRefuting net fault depth (Clash items) = LeadsToClash net fault depth none_held × AreAccepted net fault items
IsRefuting net fault depth (Open facts) = IsLeastAt net fault depth none_held (held_by facts) × (length net.nodes ≤ length facts)
