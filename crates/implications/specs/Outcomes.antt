-- What closing a set of facts comes to.
use Rattle.std.specs.Prelude.{IsTrue, List, None, Option, Some, [], length, ℕ, ◌++◌, ◌≡◌, ◌∷◌, ◌↔◌, ◌≤◌}
use Rattle.gate_net.specs.Net.{Net}
use Rattle.implications.specs.Outside.{AreOutside, LeadToOutside}
use Rattle.implications.specs.declared.outcome.Closed.{Closed}
use Rattle.implications.specs.declared.outcome.Closed.TheVariants.{Clash, Open}
use Rattle.refutation.specs.Branches.{AreAccepted, Branch, IsClosed, items_of}
use Rattle.refutation.specs.Closing.{Clashes, IsClashFree, IsClosedUnderLines, IsDerivable, IsWithin, LinesLead}
use Rattle.refutation.specs.FactSets.{held_by}
use Rattle.refutation.specs.Facts.{AreOpposed, Held, none_held}
use Rattle.refutation.specs.declared.held.NodeFacts.{NodeFacts}
use Rattle.refutation.specs.declared.items.Item.{Item}
use Rattle.refutation.specs.declared.items.Item.TheVariants.{Clash as ClashItem, Line as LineItem}
use Rattle.refutation.specs.declared.reasoning.Fact.{Fact}
use Rattle.refutation.specs.declared.reasoning.Line.{Line}
use Rattle.rm_base.specs.declared.numbers.Fault.{Fault}
use Rattle.rm_base.specs.declared.numbers.NodeId.{NodeId}

-- the items of these lines, ended by a clash at the node
abbrev pub clash_items : List Line → NodeId → List Item
clash_items [] x = ClashItem x ∷ []
clash_items (l ∷ lines) x = LineItem l ∷ clash_items lines x

-- the lines lead from the facts at the start to these, which are closed under every line, without a clash
pub record IsOpenFrom (net : Net) (fault : Fault) (start : Held) (lines : List Line) (facts : List NodeFacts) : Type 0 where
  pub closed : IsClosedUnderLines net fault (held_by facts)
  pub free : IsClashFree (held_by facts)
  pub within : IsWithin start (held_by facts)
  pub leads : LinesLead net fault start lines (held_by facts)

-- the lines lead from the facts at the start to these, of which two are opposed on the node
pub record IsClashAt (net : Net) (fault : Fault) (start : Held) (lines : List Line) (facts : Held) (x : ℕ) : Type 0 where
  pub leads : LinesLead net fault start lines facts
  pub opposed : AreOpposed facts x

-- the items are the lines ended by a clash, and are accepted when they are read from the facts at the start
pub record IsClashFrom (net : Net) (fault : Fault) (start : Held) (lines : List Line) (items : List Item) : Type 0 where
  pub node : NodeId
  pub facts : Held
  pub clash : IsClashAt net fault start lines facts node.0
  pub ends : items ≡ clash_items lines node
  pub tree : Branch
  pub reads : items ≡ items_of tree
  pub closed : IsClosed net fault start tree

-- the facts are exactly the derivable ones, for each node number of the net, and no lines lead to a clash; the lines lead to them from what the faulty gate doesn't reach
pub record IsOpen (net : Net) (fault : Fault) (lines : List Line) (facts : List NodeFacts) : Type 0 where
  pub start : Held
  pub outside : AreOutside net fault start
  pub open_from : IsOpenFrom net fault start lines facts
  pub derivable : (x : ℕ) (fact : Fact) → IsTrue (held_by facts x fact) ↔ IsDerivable net fault x fact
  pub no_clash : Clashes net fault → ⊥
  pub size : length net.nodes ≤ length facts

-- lines lead to a clash, and the items are an accepted closed tree: lines to what the faulty gate doesn't reach, and these lines ended by that clash
pub record IsClashed (net : Net) (fault : Fault) (lines : List Line) (items : List Item) : Type 0 where
  pub clashes : Clashes net fault
  pub accepted : AreAccepted net fault items
  pub first : List Line
  pub outside : LeadToOutside net fault first
  pub clash_from : IsClashFrom net fault none_held (first ++ lines) items

-- what `close` answers with these lines
abbrev pub IsClosing : Net → Fault → List Line → Closed → Type 0
IsClosing net fault lines (Clash items) = IsClashed net fault lines items
IsClosing net fault lines (Open facts) = IsOpen net fault lines facts

-- what `grow` answers from these facts with these lines
abbrev pub IsGrown : Net → Fault → Held → List Line → Closed → Type 0
IsGrown net fault start lines (Clash items) = IsClashFrom net fault start lines items
IsGrown net fault start lines (Open facts) = IsOpenFrom net fault start lines facts × (length net.nodes ≤ length facts)

-- what `extend` answers from these facts with these lines, and the facts that it leaves: closed under every line, or a clash at the node
abbrev pub IsExtended : Net → Fault → Held → List Line → List NodeFacts → Option NodeId → Type 0
IsExtended net fault start lines facts None = IsOpenFrom net fault start lines facts
IsExtended net fault start lines facts (Some x) = IsClashAt net fault start lines (held_by facts) x.0

abbrev pub IsClash : Closed → Type 0
IsClash (Clash items) = Unit {0}
IsClash (Open facts) = ⊥
