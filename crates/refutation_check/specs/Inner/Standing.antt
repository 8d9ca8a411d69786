-- Which branches are left while a tree is read.
use Rattle.std.specs.Prelude.{Bool, List, [], false, length, not, take, true, ℕ, ◌++◌, ◌<◌, ◌∷◌, ◌≡◌, ◌≤◌}
use Rattle.gate_net.specs.declared.Kind.{Kind}
use Rattle.gate_net.specs.declared.Kind.TheVariants.{Source}
use Rattle.refutation.specs.Branches.{IsNoConstant}
use Rattle.refutation.specs.Facts.{Held, with_fact}
use Rattle.refutation.specs.Stack.{Due, tree, untried_for}
use Rattle.refutation.specs.declared.items.Form.{Form}
use Rattle.refutation.specs.declared.items.Form.TheVariants.{Closed, Partial}
use Rattle.refutation.specs.declared.reasoning.Fact.TheVariants.{Good}
use Rattle.refutation_check.specs.Inner.Notes.{held_of}
use Rattle.refutation_check.specs.declared.branches.Branches.{Branches}
use Rattle.refutation_check.specs.declared.branches.Pending.{Pending}
use Rattle.refutation_check.specs.declared.trail.HeldFact.{HeldFact}

-- the second branches that are still to be read, the last one first
abbrev pub others_of : List HeldFact → List Pending → List Due
others_of entries [] = []
others_of entries (p ∷ pending) =
    others_of entries pending ++ tree (with_fact (held_of (take p.mark entries)) p.node.0 (Good (not p.first))) ∷ []

abbrev pub left_in : Bool → List HeldFact → List Pending → List Due
left_in true entries pending = untried_for (others_of entries pending)
left_in false entries pending = tree (held_of entries) ∷ others_of entries pending

-- what is left after a split: both branches, the one with the first value at once
abbrev pub split_left : Held → List Due → ℕ → Bool → List Due
split_left held others x first = tree (with_fact held x (Good first)) ∷ tree (with_fact held x (Good (not first))) ∷ others

-- what is left to be read
abbrev pub left_of : Branches → List Due
left_of b = left_in b.stopped b.trail.entries b.pending.items

-- the marks go up from the first number to the last, on nodes below a bound
abbrev pub Climb : ℕ → ℕ → List Pending → ℕ → Type 0
Climb numbers low [] high = low ≤ high
Climb numbers low (p ∷ pending) high = (p.node.0 < numbers) × ((low ≤ p.mark) × Climb numbers p.mark pending high)

-- what holds of the branches at any time
abbrev pub IsClimbing : Branches → Type 0
IsClimbing b = Climb b.trail.numbers 0 b.pending.items (length b.trail.entries)

-- this is left to be read now
pub record Moves (left : List Due) (old new : Branches) : Type 0 where
  pub climbs : IsClimbing new
  pub numbers : new.trail.numbers ≡ old.trail.numbers
  pub left_is : left ≡ left_of new

-- a tree of the form may split on nodes of the kind
abbrev pub MaySplitKind : Form → Kind → Type 0
MaySplitKind Closed kind = IsNoConstant kind
MaySplitKind Partial kind = kind ≡ Source
