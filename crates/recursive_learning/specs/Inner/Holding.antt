-- Nodes whose good values are held, found among the facts that were added.
use Rattle.std.specs.Prelude.{Bool, IsTrue, List, Some, length, slice_get, ℕ, ◌<◌, ◌≡◌}
use Rattle.gate_graph.specs.Search.{IsSeen}
use Rattle.gate_net.specs.Net.{Net}
use Rattle.implications.specs.Bases.{IsListed}
use Rattle.implications.specs.State.{EngineState}
use Rattle.implications.specs.Trail.{LeadsBack}
use Rattle.recursive_learning.specs.declared.watch.Watch.{Watch}
use Rattle.refutation.specs.FactSets.{held_by}
use Rattle.refutation.specs.Facts.{Held, known_good}
use Rattle.refutation.specs.declared.held.NodeFacts.{NodeFacts}
use Rattle.refutation.specs.declared.reasoning.Fact.{Fact}
use Rattle.refutation.specs.declared.reasoning.Fact.TheVariants.{Good}
use Rattle.rm_base.specs.declared.numbers.NodeId.{NodeId}

-- where the fact is a good value, its node is in the list
abbrev pub NamesGood : NodeId × Fact → List NodeId → Type 0
NamesGood a nodes = (b : Bool) → a.1 ≡ Good b → IsListed nodes a.0.0

-- the node of each good value among the added facts is in the list
abbrev pub NamesAdded : List (NodeId × Fact) → List NodeId → Type 0
NamesAdded added nodes = (k : ℕ) (a : NodeId × Fact) → slice_get added k ≡ Some a → NamesGood a nodes

-- each node of the net whose good value is known is in the list
abbrev pub NamesKnown : Net → Held → List NodeId → Type 0
NamesKnown net held nodes = (y : ℕ) (b : Bool) → y < length net.nodes → known_good held y ≡ Some b → IsListed nodes y

-- what was in the list still is
abbrev pub StillNames : List NodeId → List NodeId → Type 0
StillNames old new = (y : ℕ) → IsListed old y → IsListed new y

-- the list has the nodes that the watch began with, and those of good values among the added facts
pub record NamesAll (w : Watch) (added : List (NodeId × Fact)) (nodes : List NodeId) : Type 0 where
  pub first : StillNames w.first.items nodes
  pub later : NamesAdded added nodes

-- each node of the list is on the worklist
abbrev pub ListsNodes : List NodeId → List Bool → Type 0
ListsNodes nodes listed = (k : ℕ) (n : NodeId) → slice_get nodes k ≡ Some n → n.0 < length listed → IsSeen listed n.0

-- each good value that is held was added, or is of a node that the watch began with
pub record HasGoods (w : Watch) (e : EngineState) (facts : List NodeFacts) : Type 0 where
  pub mark : ℕ
  pub start : List NodeFacts
  pub leads : LeadsBack e.trail mark facts start
  pub first : (x : ℕ) (value : Bool) → IsTrue (held_by start x (Good value)) → IsListed w.first.items x
