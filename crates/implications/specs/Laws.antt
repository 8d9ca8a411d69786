-- Laws of lines and of trails.
use Rattle.std.specs.Prelude.{List, None, Some, drop, ℕ, ◌≡◌}
use Rattle.gate_net.specs.Net.{Net, Reads}
use Rattle.implications.specs.Settled.{AgreeAt, place_of}
use Rattle.implications.specs.Trail.{AreAdded, LeadsBack}
use Rattle.refutation.specs.Closing.{ClashFrom, IsClashFree, IsClosedUnderLines, IsWithin, LinesLead}
use Rattle.refutation.specs.Facts.{Held}
use Rattle.refutation.specs.Learning.{NoneContains}
use Rattle.refutation.specs.Lines.{Concludes}
use Rattle.refutation.specs.declared.held.NodeFacts.{NodeFacts}
use Rattle.refutation.specs.declared.reasoning.Fact.{Fact}
use Rattle.refutation.specs.declared.reasoning.Line.{Line}
use Rattle.rm_base.specs.declared.numbers.Fault.{Fault}
use Rattle.rm_base.specs.declared.numbers.NodeId.{NodeId}

-- a closed set without a clash that contains some facts contains all to which lines lead from them
abbrev pub LinesForce : Type 0
LinesForce =
    (net : Net) (fault : Fault) (start after : Held) (lines : List Line) → LinesLead net fault start lines after
    → (s : Held) → IsWithin start s → IsClashFree s → IsClosedUnderLines net fault s → IsWithin after s

-- facts from which lines lead to a clash are in no closed set without one
abbrev pub ClashesForce : Type 0
ClashesForce =
    (net : Net) (fault : Fault) (start : Held) → ClashFrom net fault start → NoneContains (IsClosedUnderLines net fault) start

-- what leads back is what was added
abbrev pub TrailTells : Type 0
TrailTells =
    (trail : List (NodeId × Fact)) (mark : ℕ) (now start : List NodeFacts) → LeadsBack trail mark now start → AreAdded (drop mark trail) start now

-- what a line at a node gives, it gives under any facts that agree at the node and at its drivers
abbrev pub LinesAreLocal : Type 0
LinesAreLocal =
    (net : Net) (fault : Fault) (held other : Held) (y : ℕ) → AgreeAt held other y → ((p d : ℕ) → Reads net y p d → AgreeAt held other d)
    → (l : Line) (x : ℕ) (fact : Fact) → place_of l ≡ Some y → Concludes net fault held l x fact → Concludes net fault other l x fact

-- what a line without a place gives, it gives under any facts
abbrev pub FirstLinesAskNothing : Type 0
FirstLinesAskNothing =
    (net : Net) (fault : Fault) (held other : Held) (l : Line) (x : ℕ) (fact : Fact) → place_of l ≡ None → Concludes net fault held l x fact
    → Concludes net fault other l x fact
