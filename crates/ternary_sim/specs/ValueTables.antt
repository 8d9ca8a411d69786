-- Marks of which some numbers are watched and counted.
use Rattle.std.specs.Prelude.{Bool, List, ℕ, ◌↔◌}
use Rattle.gate_graph.specs.Search.{IsSeen}
use Rattle.gate_net.specs.Net.{IsObserved, Net}
use Rattle.ternary_sim.specs.declared.marks.NodeMarks.{NodeMarks}

-- the marks by node number, and which numbers are watched
pub record TableState : Type 0 where
  pub marks : List NodeMarks
  pub watched : List Bool

-- exactly the observed nodes are watched
abbrev pub Watches : Net → List Bool → Type 0
Watches net watched = (x : ℕ) → IsSeen watched x ↔ IsObserved net x
