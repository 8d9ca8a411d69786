-- Writing the items of a tree, part by part.
use Rattle.std.specs.Prelude.{Bool, List, false, true, ◌++◌, ◌∷◌, ◌≡◌}
use Rattle.gate_net.specs.Net.{Net}
use Rattle.recursive_learning.specs.Inner.Working.{AreSettled}
use Rattle.refutation.specs.Facts.{Held}
use Rattle.refutation.specs.Stack.{AreRead, Due, tree}
use Rattle.refutation.specs.declared.items.Form.TheVariants.{Closed}
use Rattle.refutation.specs.declared.items.Item.{Item}
use Rattle.refutation.specs.declared.items.Item.TheVariants.{Line}
use Rattle.refutation.specs.declared.reasoning.Line.{Line as OneLine}
use Rattle.rm_base.specs.declared.numbers.Fault.{Fault}

abbrev pub line_item : OneLine → Item
line_item l = Line l

-- the new items are read, and lead from the one to the other, whatever is left below
abbrev pub Writes : Net → Fault → (List Due → List Due) → List Item → (List Due → List Due) → List Item → Type 0
Writes net fault left before then after =
    (pieces : List Item) × ((after ≡ before ++ pieces) × ((below : List Due) → AreRead net fault Closed (left below) pieces (then below)))

-- one branch with these facts comes first
abbrev pub branch : Held → List Due → List Due
branch held below = tree held ∷ below

abbrev pub none : List Due → List Due
none below = below

-- the items end a branch with these facts
abbrev pub Ends : Net → Fault → Held → List Item → List Item → Type 0
Ends net fault held before after = Writes net fault (branch held) before none after

-- the items lead a branch from these facts to those
abbrev pub Leads : Net → Fault → Held → List Item → Held → List Item → Type 0
Leads net fault held before now after = Writes net fault (branch held) before (branch now) after

-- whether the branch has ended, or to which facts it has come
abbrev pub IsTold : Net → Fault → Held → List Item → Bool → Held → List Item → Type 0
IsTold net fault held before true now after = Ends net fault held before after
IsTold net fault held before false now after = Leads net fault held before now after × AreSettled net fault now
