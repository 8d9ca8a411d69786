-- How a search goes on from branch to branch.
use Rattle.std.specs.Prelude.{Bool, List, None, Option, Some, [], false, true, ℕ, ◌++◌, ◌-◌, ◌<◌, ◌∷◌, ◌≡◌}
use Rattle.gate_net.specs.Forward.{Marking, MarksDetected, MarksQuiet}
use Rattle.gate_net.specs.Net.{Net}
use Rattle.podem.specs.Inner.Branching.{ClosesBranch, EndsBranch, LeavesSome, SpendsBranch, Tells}
use Rattle.podem.specs.Inner.Choosing.{MaySplitOn}
use Rattle.podem.specs.Inner.Waiting.{value_of, waits}
use Rattle.podem.specs.declared.branching.End.TheVariants.{Closed}
use Rattle.podem.specs.declared.branching.Found.{Found}
use Rattle.podem.specs.declared.branching.Found.TheVariants.{Ends, Splits}
use Rattle.podem.specs.declared.choosing.Goal.{Goal}
use Rattle.podem.specs.declared.splits.OpenSplit.{OpenSplit}
use Rattle.refutation.specs.Facts.{Held, with_fact}
use Rattle.refutation.specs.declared.items.Item.{Item}
use Rattle.refutation.specs.declared.items.Item.TheVariants.{Split}
use Rattle.refutation.specs.declared.reasoning.Fact.TheVariants.{Good}
use Rattle.rm_base.specs.declared.numbers.Fault.{Fault}
use Rattle.ternary_sim.specs.Marks.{marking}
use Rattle.ternary_sim.specs.Regions.{IsCurrent, IsWhole}
use Rattle.ternary_sim.specs.Tracking.{Gets}
use Rattle.ternary_sim.specs.declared.marks.NodeMarks.{NodeMarks}

-- where a branch begins: the marks, the items before its own, and how many edges were left
pub record Start : Type 0 where
  pub marks : List NodeMarks
  pub items : List Item
  pub left : ℕ

-- a branch that has to be split, and may be on this source
pub record CanSplit (net : Net) (fault : Fault) (marks : List NodeMarks) (choice : Goal) (left : ℕ) : Type 0 where
  pub current : IsCurrent net fault marks
  pub whole : (m : Marking) × IsWhole net fault marks m
  pub may : MaySplitOn net fault marks choice.node.0
  pub undetected : MarksDetected net (marking marks) → ⊥
  pub loud : MarksQuiet net (marking marks) → ⊥
  pub some : 0 < left

-- the first branch of a split is closed, and an edge is left for the second one
pub record HasClosedFirst (net : Net) (fault : Fault) (choice : Goal) (above : Start) (items : List Item) (left : ℕ) : Type 0 where
  pub more : 0 < left
  pub first :
      (held : Held) → Tells net above.marks held
      → ClosesBranch net fault (with_fact held choice.node.0 (Good choice.value)) (above.items ++ Split choice.node choice.value ∷ []) items (above.left - 1) left

-- what lies between a split's items and those of its branch
abbrev pub HasWritten : Net → Fault → Bool → Goal → Start → Start → Type 0
HasWritten net fault false choice above at =
    (at.items ≡ above.items ++ Split choice.node choice.value ∷ []) × (at.left ≡ above.left - 1)
HasWritten net fault true choice above at =
    (left : ℕ) × ((at.left ≡ left - 1) × HasClosedFirst net fault choice above at.items left)

-- the one begins where a branch of the other one's split does
pub record IsUnder (net : Net) (fault : Fault) (second : Bool) (choice : Goal) (above at : Start) : Type 0 where
  pub can : CanSplit net fault above.marks choice above.left
  pub gets : Gets net above.marks at.marks choice.node.0 (value_of second choice)
  pub written : HasWritten net fault second choice above at

-- from the root one comes by these splits, the last one first, to the branch that begins there
abbrev pub AreOpen : Net → Fault → Start → List OpenSplit → List (List NodeMarks) → Start → Type 0
AreOpen net fault root [] before at = at ≡ root
AreOpen net fault root (s ∷ rest) before at =
    (above : Start) × (earlier : List (List NodeMarks))
    × ((before ≡ earlier ++ above.marks ∷ []) × (s.waiting ≡ waits rest) × IsUnder net fault s.second s.choice above at × AreOpen net fault root rest earlier above)

-- what a look at a branch finds: how it ends there, or on what it is to be split
abbrev pub Finds : Net → Fault → List NodeMarks → List Item → List Item → ℕ → Bool → Found → Type 0
Finds net fault marks old new left waiting (Ends e) = EndsBranch net fault marks old new left left e × LeavesSome waiting left e
Finds net fault marks old new left waiting (Splits choice) =
    CanSplit net fault marks choice left × (new ≡ old ++ Split choice.node choice.value ∷ [])

-- the branch with these marks is closed
pub record ClosesAt (net : Net) (fault : Fault) (root : Start) (splits : List OpenSplit) (before : List (List NodeMarks)) (marks : List NodeMarks) (tree : List Item) (left : ℕ) : Type 0 where
  pub items : List Item
  pub from : ℕ
  pub opened : AreOpen net fault root splits before (record { marks = marks; items = items; left = from })
  pub closed : EndsBranch net fault marks items tree from left Closed
  pub some : waits splits ≡ true → 0 < left

-- the first branch of a split is closed, which has these marks
pub record ClosesFirst (net : Net) (fault : Fault) (root : Start) (splits : List OpenSplit) (before : List (List NodeMarks)) (marks : List NodeMarks) (tree : List Item) (left : ℕ) (s : OpenSplit) : Type 0 where
  pub items : List Item
  pub from : ℕ
  pub opened : AreOpen net fault root splits before (record { marks = marks; items = items; left = from })
  pub can : CanSplit net fault marks s.choice from
  pub waiting : s.waiting ≡ waits splits
  pub closed : HasClosedFirst net fault s.choice (record { marks = marks; items = items; left = from }) tree left

-- after a closed branch: the whole is closed, or the first branch of the split that is given
abbrev pub ComesBack : Net → Fault → Start → List OpenSplit → List (List NodeMarks) → List NodeMarks → List Item → ℕ → Option OpenSplit → Type 0
ComesBack net fault root splits before marks tree left None = EndsBranch net fault root.marks root.items tree root.left left Closed
ComesBack net fault root splits before marks tree left (Some s) = ClosesFirst net fault root splits before marks tree left s

-- the branch under these splits was stopped
pub record SpendsAt (net : Net) (fault : Fault) (root : Start) (splits : List OpenSplit) (tree : List Item) : Type 0 where
  pub before : List (List NodeMarks)
  pub at : Start
  pub opened : AreOpen net fault root splits before at
  pub spent : (held : Held) → Tells net at.marks held → SpendsBranch net fault held at.items tree at.left
