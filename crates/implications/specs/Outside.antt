-- The nodes that the faulty gate doesn't reach: they are equal, and a close begins with that.
use Rattle.std.specs.Prelude.{Bool, IsTrue, List, [], length, map, ℕ, ◌++◌, ◌<◌, ◌≡◌, ◌≢◌, ◌↔◌, ◌⊎◌}
use Rattle.gate_graph.specs.Search.{IsSeen}
use Rattle.gate_net.specs.Net.{IsGate, IsWellFormed, Net, drivers_of}
use Rattle.implications.specs.Beginning.{node_of}
use Rattle.implications.specs.Settled.{IsSettled}
use Rattle.refutation.specs.Closing.{LinesLead}
use Rattle.refutation.specs.FactSets.{held_by}
use Rattle.refutation.specs.Facts.{Held, none_held}
use Rattle.refutation.specs.Lines.{Concludes}
use Rattle.refutation.specs.declared.held.NodeFacts.{NodeFacts}
use Rattle.refutation.specs.declared.items.Item.{Item}
use Rattle.refutation.specs.declared.items.Item.TheVariants.{Line as LineItem}
use Rattle.refutation.specs.declared.reasoning.Fact.{Fact}
use Rattle.refutation.specs.declared.reasoning.Line.{Line}
use Rattle.refutation.specs.declared.reasoning.Line.TheVariants.{Out}
use Rattle.rm_base.specs.declared.numbers.Fault.{Fault}

-- a fact is held exactly where the node's line on what isn't reached gives it
abbrev pub AreOutside : Net → Fault → Held → Type 0
AreOutside net fault start = (x : ℕ) (fact : Fact) → IsTrue (start x fact) ↔ Concludes net fault none_held (Out (node_of x)) x fact

-- the lines lead from no facts to those, of which there are such
pub record LeadToOutside (net : Net) (fault : Fault) (lines : List Line) : Type 0 where
  pub some : Held
  pub outside : AreOutside net fault some
  pub leads : (start : Held) → AreOutside net fault start → LinesLead net fault none_held lines start

-- the lines lead from those to these facts
pub record LeadFromOutside (net : Net) (fault : Fault) (lines : List Line) (facts : Held) : Type 0 where
  pub start : Held
  pub outside : AreOutside net fault start
  pub leads : LinesLead net fault start lines facts

abbrev pub line_item : Line → Item
line_item l = LineItem l

-- the items of lines that lead to those were appended
abbrev pub AppendsOutside : Net → Fault → List Item → List Item → Type 0
AppendsOutside net fault before after = (lines : List Line) × ((after ≡ before ++ map line_item lines) × LeadToOutside net fault lines)

-- a gate without pins
abbrev pub IsPinless : Net → ℕ → Type 0
IsPinless net y = IsGate net y × (drivers_of net y ≡ [])

-- with nothing else held, each node is settled but the constants, the faulty gate and gates without pins
abbrev pub OutsideIsSettled : Type 0
OutsideIsSettled =
    (net : Net) (fault : Fault) (start : Held) → IsWellFormed net → AreOutside net fault start
    → (y : ℕ) → y ≢ 0 → y ≢ 1 → y ≢ fault.gate.0 → (IsPinless net y → ⊥) → IsSettled net fault start y

-- what the line of node y on what isn't reached gives is held too
pub record HoldsOutside (net : Net) (fault : Fault) (y : ℕ) (before after : List NodeFacts) : Type 0 where
  pub facts : (x : ℕ) (fact : Fact) → IsTrue (held_by after x fact) ↔ (IsTrue (held_by before x fact) ⊎ Concludes net fault none_held (Out (node_of y)) x fact)
  pub size : length after ≡ length before

-- of the numbers below this one, what isn't reached is held, and gates without pins are on the worklist
pub record BeginsBelow (net : Net) (fault : Fault) (number : ℕ) (facts : List NodeFacts) (worklist : List Bool) : Type 0 where
  pub outside : (x : ℕ) (fact : Fact) → IsTrue (held_by facts x fact) ↔ ((x < number) × Concludes net fault none_held (Out (node_of x)) x fact)
  pub pinless : (y : ℕ) → y < number → IsPinless net y → IsSeen worklist y
  pub size : length facts ≡ length net.nodes

-- lines that were written lead to what isn't reached of the numbers below this one
pub record WritesBelow (net : Net) (fault : Fault) (number : ℕ) (before after : List Item) : Type 0 where
  pub lines : List Line
  pub is : after ≡ before ++ map line_item lines
  pub held : Held
  pub leads : LinesLead net fault none_held lines held
  pub outside : (x : ℕ) (fact : Fact) → IsTrue (held x fact) ↔ ((x < number) × Concludes net fault none_held (Out (node_of x)) x fact)
