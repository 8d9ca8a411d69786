-- Laws of lines, trees and closed sets of facts.
use Rattle.std.specs.Prelude.{Bool, IsTrue, List, Some, suc, ℕ, ◌*◌, ◌+◌, ◌-◌, ◌^◌, ◌≡◌, ◌≤◌}
use Rattle.gate_net.specs.Net.{HasSources, IsAcyclic, IsLive, IsWellFormed, Net, Reads, source_count}
use Rattle.gate_net.specs.Values.{Detects, HasPin, IsRun, IsUndetected, SameObserved}
use Rattle.refutation.specs.Branches.{AreAccepted, AreAcceptedPartial, Branch, IsPartial, edges, items_of, split}
use Rattle.refutation.specs.Closing.{Clashes, IsClashFree, IsClosedUnderLines, IsDerivable, IsWithin, both_hold}
use Rattle.refutation.specs.Facts.{AreTrueFacts, Held, known_good, none_held, with_fact}
use Rattle.refutation.specs.Learning.{IsClosedAt, LeadsToClash}
use Rattle.refutation.specs.Lines.{Concludes, IsQuiet}
use Rattle.refutation.specs.OpenSearch.{IsOpenSearch}
use Rattle.refutation.specs.Stack.{AreReadToEnd, IsAcceptedAs, splits_among, untrieds_among}
use Rattle.refutation.specs.declared.items.Form.{Form}
use Rattle.refutation.specs.declared.items.Item.{Item}
use Rattle.refutation.specs.declared.reasoning.Fact.{Fact}
use Rattle.refutation.specs.declared.reasoning.Fact.TheVariants.{Good}
use Rattle.refutation.specs.declared.reasoning.Line.{Line}
use Rattle.rm_base.specs.declared.numbers.Fault.{Fault}
use Rattle.rm_base.specs.declared.numbers.NodeId.{NodeId}

-- each line keeps the truth of the held facts wherever some observed node differs
abbrev pub LinesHold : Type 0
LinesHold =
    (net : Net) (fault : Fault) (driver : ℕ) → IsAcyclic net → Reads net fault.gate.0 fault.position driver
    → (a v f : ℕ → Bool) → IsRun net fault a v f → (SameObserved net v f → ⊥) → (held : Held) → AreTrueFacts v f held
    → (l : Line) (x : ℕ) (fact : Fact) → Concludes net fault held l x fact → AreTrueFacts v f (with_fact held x fact)

-- an accepted closed tree leaves no assignment that detects the fault
abbrev pub TreesRefute : Type 0
TreesRefute =
    (net : Net) (fault : Fault) (driver : ℕ) (items : List Item) → IsAcyclic net → Reads net fault.gate.0 fault.position driver
    → AreAccepted net fault items → IsUndetected net fault

-- the items are read to the end of a tree exactly where the tree is accepted
abbrev pub ReadingsAccept : Type 0
ReadingsAccept =
    (net : Net) (fault : Fault) (form : Form) (items : List Item) →
    (AreReadToEnd net fault form items → IsAcceptedAs form net fault items)
    × (IsAcceptedAs form net fault items → AreReadToEnd net fault form items)

-- the edges of a tree are counted by its items
abbrev pub EdgesAreCounted : Type 0
EdgesAreCounted = (t : Branch) → edges t ≡ 2 * splits_among (items_of t) - untrieds_among (items_of t)

-- with n sources a partial tree has at most 2 ^ (n + 1) - 2 edges
abbrev pub PartialsAreSmall : Type 0
PartialsAreSmall =
    (net : Net) (fault : Fault) (t : Branch) → HasSources net → IsPartial net fault none_held t → edges t + 2 ≤ 2 ^ (source_count net + 1)

-- with n sources a partial tree has at most n Untrieds
abbrev pub UntriedsAreFew : Type 0
UntriedsAreFew =
    (net : Net) (fault : Fault) (items : List Item) → HasSources net → AreAcceptedPartial net fault items → untrieds_among items ≤ source_count net

-- a line gives one fact at most
abbrev pub LinesGiveOne : Type 0
LinesGiveOne =
    (net : Net) (fault : Fault) (held : Held) (l : Line) (x y : ℕ) (fact other : Fact) → Concludes net fault held l x fact
    → Concludes net fault held l y other → (x ≡ y) × (fact ≡ other)

-- a line's condition stays met while facts come and no two are opposed
abbrev pub LinesGrow : Type 0
LinesGrow =
    (net : Net) (fault : Fault) (held more : Held) → IsWithin held more → IsClashFree more
    → (l : Line) (x : ℕ) (fact : Fact) → Concludes net fault held l x fact → Concludes net fault more l x fact

-- a closed set without a clash has every derivable fact, and there is then no clash
abbrev pub ClosedHasAll : Type 0
ClosedHasAll =
    (net : Net) (fault : Fault) (held : Held) → IsClosedUnderLines net fault held → IsClashFree held
    → ((x : ℕ) (fact : Fact) → IsDerivable net fault x fact → IsTrue (held x fact)) × (Clashes net fault → ⊥)

-- a fault that an assignment detects comes to no clash at any depth
abbrev pub DetectedNeverClashes : Type 0
DetectedNeverClashes =
    (net : Net) (fault : Fault) (driver : ℕ) (a : ℕ → Bool) → IsAcyclic net → Reads net fault.gate.0 fault.position driver
    → Detects net fault a → (depth : ℕ) → LeadsToClash net fault depth none_held → ⊥

-- what two closed sets share is closed
abbrev pub ClosedMeet : Type 0
ClosedMeet =
    (net : Net) (fault : Fault) (depth : ℕ) (s t : Held) → IsClashFree s → IsClashFree t
    → IsClosedAt net fault depth s → IsClosedAt net fault depth t → IsClosedAt net fault depth (both_hold s t)

-- a set that is closed at a depth is closed at each smaller one
abbrev pub ClosedBelow : Type 0
ClosedBelow =
    (net : Net) (fault : Fault) (depth : ℕ) (s : Held) → IsClashFree s → IsClosedAt net fault (suc depth) s → IsClosedAt net fault depth s

-- an open search makes no split that a closed reading would have ended
abbrev pub OpenSearchesWait : Type 0
OpenSearchesWait =
    (net : Net) (fault : Fault) (held : Held) (x : NodeId) (first : Bool) (t u : Branch) → IsAcyclic net
    → IsOpenSearch net fault held (split x first t u) → IsQuiet net fault held → ⊥

-- a line's fact is on a live node
abbrev pub LinesAreLive : Type 0
LinesAreLive =
    (net : Net) (fault : Fault) (held : Held) → IsWellFormed net → HasPin net fault → (l : Line) (x : ℕ) (fact : Fact) → Concludes net fault held l x fact → IsLive net x

-- a good value that is known is held
abbrev pub KnownIsHeld : Type 0
KnownIsHeld = (held : Held) (x : ℕ) (value : Bool) → known_good held x ≡ Some value → IsTrue (held x (Good value))

-- the items of a tree tell the tree, so that accepted items are those of one tree only
abbrev pub ItemsTellTree : Type 0
ItemsTellTree = (t u : Branch) → items_of t ≡ items_of u → t ≡ u
