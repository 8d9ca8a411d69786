-- What a refuter comes to before its tree is written.
use Rattle.std.specs.Prelude.{List, None, Option, Some, ℕ, ◌≤◌}
use Rattle.gate_net.specs.Net.{Net}
use Rattle.recursive_learning.specs.Inner.Bodies.{IsBody}
use Rattle.refutation.specs.declared.items.Item.{Item}
use Rattle.recursive_learning.specs.Answers.{IsRefuting}
use Rattle.implications.specs.declared.outcome.Closed.TheVariants.{Open}
use Rattle.refutation.specs.Facts.{none_held}
use Rattle.refutation.specs.Learning.{LeadsToClash}
use Rattle.refutation.specs.declared.held.NodeFacts.{NodeFacts}
use Rattle.rm_base.specs.declared.numbers.Fault.{Fault}

-- the first depth at which there is a clash, or the least set that is closed at the depth
abbrev pub IsLevel : Net → Fault → ℕ → List NodeFacts → Option ℕ → Type 0
IsLevel net fault depth facts None = IsRefuting net fault depth (Open facts)
IsLevel net fault depth facts (Some level) = (level ≤ depth) × LeadsToClash net fault level none_held

-- the items that lead to a clash at the depth, or the least set that is closed there
abbrev pub IsBodyTo : Net → Fault → ℕ → List NodeFacts → Option (List Item) → Type 0
IsBodyTo net fault depth facts None = IsRefuting net fault depth (Open facts)
IsBodyTo net fault depth facts (Some items) = LeadsToClash net fault depth none_held × IsBody net fault items
