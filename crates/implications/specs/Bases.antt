-- What closing in place begins with, and comes back to.
use Rattle.std.specs.Prelude.{Bool, IsTrue, List, None, Option, Some, false, length, replicate, slice_get, ℕ, ◌<◌, ◌≡◌, ◌≤◌, ◌↔◌, ◌⊎◌}
use Rattle.gate_graph.specs.Search.{IsSeen}
use Rattle.gate_net.specs.Net.{IsLive, Net}
use Rattle.implications.specs.Outcomes.{IsClashAt, IsOpen}
use Rattle.implications.specs.Outside.{AreOutside, IsPinless}
use Rattle.implications.specs.State.{EngineState}
use Rattle.implications.specs.Trail.{LeadsBack}
use Rattle.implications.specs.declared.basis.Basis.{Basis}
use Rattle.refutation.specs.Closing.{Clashes}
use Rattle.refutation.specs.FactSets.{held_by}
use Rattle.refutation.specs.Facts.{Held}
use Rattle.refutation.specs.declared.held.NodeFacts.{NodeFacts}
use Rattle.refutation.specs.declared.reasoning.Fact.{Fact}
use Rattle.refutation.specs.declared.reasoning.Fact.TheVariants.{Equal}
use Rattle.refutation.specs.declared.reasoning.Line.{Line}
use Rattle.rm_base.specs.declared.numbers.Fault.{Fault}
use Rattle.rm_base.specs.declared.numbers.NodeId.{NodeId}

-- each live node is equal, and nothing else is held
abbrev pub IsRest : Net → Held → Type 0
IsRest net held = (x : ℕ) (fact : Fact) → IsTrue (held x fact) ↔ (IsLive net x × (fact ≡ Equal))

-- the node is in the list
abbrev pub IsListed : List NodeId → ℕ → Type 0
IsListed nodes y = (k : ℕ) × ((n : NodeId) × ((slice_get nodes k ≡ Some n) × (n.0 ≡ y)))

-- the list has each gate without pins, and no other numbers than the net's
pub record ArePinless (net : Net) (nodes : List NodeId) : Type 0 where
  pub all : (y : ℕ) → IsPinless net y → IsListed nodes y
  pub below : (k : ℕ) (n : NodeId) → slice_get nodes k ≡ Some n → n.0 < length net.nodes

-- of the numbers below this one, what is live is equal, and gates without pins are listed
pub record FitsBelow (net : Net) (number : ℕ) (facts : List NodeFacts) (nodes : List NodeId) : Type 0 where
  pub held : (x : ℕ) (fact : Fact) → IsTrue (held_by facts x fact) ↔ ((x < number) × (IsLive net x × (fact ≡ Equal)))
  pub all : (y : ℕ) → y < number → IsPinless net y → IsListed nodes y
  pub below : (k : ℕ) (n : NodeId) → slice_get nodes k ≡ Some n → n.0 < number

-- such nodes are no longer equal, and were marked
pub record TakesEquals (Such : ℕ → Type 0) (facts : List NodeFacts) (taken : List Bool) (facts' : List NodeFacts) (taken' : List Bool) : Type 0 where
  pub held : (x : ℕ) (fact : Fact) → IsTrue (held_by facts' x fact) ↔ (IsTrue (held_by facts x fact) × ((fact ≡ Equal) × Such x → ⊥))
  pub marked : (z : ℕ) → IsSeen taken' z ↔ (IsSeen taken z ⊎ Such z)
  pub size : length facts' ≡ length facts
  pub room : length taken' ≡ length taken

-- there is room for the net's node numbers
pub record HasRoom (net : Net) (b : Basis) : Type 0 where
  pub nodes : length net.nodes ≤ b.numbers
  pub facts : length b.facts ≡ b.numbers
  pub taken : length b.taken ≡ b.numbers

-- it has room for as many node numbers
pub record IsOfSize (before after : Basis) : Type 0 where
  pub numbers : after.numbers ≡ before.numbers
  pub facts : length after.facts ≡ length before.facts
  pub taken : length after.taken ≡ length before.taken

-- at rest for the net
pub record IsFitted (net : Net) (b : Basis) : Type 0 where
  pub rest : IsRest net (held_by b.facts)
  pub none : b.taken ≡ replicate (length b.taken) false
  pub pinless : ArePinless net b.pinless.items

-- with the marked nodes equal too, each live node is equal, and nothing else is held
abbrev pub Completes : Net → List Bool → Held → Type 0
Completes net taken held = (x : ℕ) (fact : Fact) → (IsTrue (held x fact) ⊎ (IsSeen taken x × (fact ≡ Equal))) ↔ (IsLive net x × (fact ≡ Equal))

-- taking back all that was added leads to facts that the marked nodes complete
pub record ComesToRest (net : Net) (trail : List (NodeId × Fact)) (taken : List Bool) (facts : List NodeFacts) : Type 0 where
  pub start : List NodeFacts
  pub leads : LeadsBack trail 0 facts start
  pub rest : Completes net taken (held_by start)

-- the engine and its basis serve the net
pub record IsFor (net : Net) (e : EngineState) (b : Basis) : Type 0 where
  pub numbers : length net.nodes ≤ e.numbers
  pub room : HasRoom net b
  pub rest : ComesToRest net e.trail b.taken b.facts
  pub pinless : ArePinless net b.pinless.items

-- the lines lead from what the faulty gate doesn't reach to these facts, of which two are opposed on the node
pub record IsClashFound (net : Net) (fault : Fault) (lines : List Line) (facts : List NodeFacts) (x : ℕ) : Type 0 where
  pub start : Held
  pub outside : AreOutside net fault start
  pub clash : IsClashAt net fault start lines (held_by facts) x
  pub clashes : Clashes net fault

-- what `open` answers with these lines, and the facts that it leaves
abbrev pub IsOpened : Net → Fault → List Line → List NodeFacts → Option NodeId → Type 0
IsOpened net fault lines facts None = IsOpen net fault lines facts
IsOpened net fault lines facts (Some x) = IsClashFound net fault lines facts x.0
