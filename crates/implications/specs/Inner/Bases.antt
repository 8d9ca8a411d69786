-- Beside Bases.antt: what only private contracts, invariants and laws speak of.
use Rattle.std.specs.Prelude.{Bool, IsTrue, List, Some, slice_get, ℕ, ◌≡◌, ◌↔◌, ◌⊎◌}
use Rattle.gate_graph.specs.Search.{IsSeen}
use Rattle.gate_net.specs.Net.{IsLive, Net}
use Rattle.implications.specs.Outside.{AreOutside}
use Rattle.refutation.specs.FactSets.{held_by}
use Rattle.refutation.specs.Facts.{Held}
use Rattle.refutation.specs.declared.held.NodeFacts.{NodeFacts}
use Rattle.refutation.specs.declared.reasoning.Fact.{Fact}
use Rattle.refutation.specs.declared.reasoning.Fact.TheVariants.{Equal}
use Rattle.rm_base.specs.declared.numbers.Fault.{Fault}
use Rattle.rm_base.specs.declared.numbers.NodeId.{NodeId}
use Rattle.implications.specs.Bases.{Completes}

-- the node is equal exactly where it is live, and all else is held as before
pub record IsRefitted (net : Net) (node : ℕ) (before after : List NodeFacts) : Type 0 where
  pub here : IsTrue (held_by after node Equal) ↔ IsLive net node
  pub others : (x : ℕ) (fact : Fact) → ((x ≡ node) × (fact ≡ Equal) → ⊥) → IsTrue (held_by after x fact) ↔ IsTrue (held_by before x fact)

-- the number is in the list
abbrev pub IsAmongNumbers : List ℕ → ℕ → Type 0
IsAmongNumbers numbers z = (k : ℕ) × (slice_get numbers k ≡ Some z)

-- the marked nodes are equal too
abbrev pub PutsBack : List Bool → Held → Held → Type 0
PutsBack taken held more = (x : ℕ) (fact : Fact) → IsTrue (more x fact) ↔ (IsTrue (held x fact) ⊎ (IsSeen taken x × (fact ≡ Equal)))

-- each node of the list is on the worklist
abbrev pub AreAllOn : List NodeId → List Bool → Type 0
AreAllOn nodes worklist = (k : ℕ) (n : NodeId) → slice_get nodes k ≡ Some n → IsSeen worklist n.0

-- the facts are what the faulty gate doesn't reach, and the marked nodes complete them
pub record IsBegun (net : Net) (fault : Fault) (facts : List NodeFacts) (taken : List Bool) : Type 0 where
  pub outside : AreOutside net fault (held_by facts)
  pub rest : Completes net taken (held_by facts)
