-- What the search of one branch comes to.
use Rattle.std.specs.Prelude.{Bool, List, [], true, ℕ, ◌*◌, ◌++◌, ◌+◌, ◌<◌, ◌∷◌, ◌≡◌}
use Rattle.gate_net.specs.Forward.{is_known}
use Rattle.gate_net.specs.Net.{IsKind, Net}
use Rattle.gate_net.specs.declared.Kind.TheVariants.{Source}
use Rattle.gate_net.specs.Faults.{IsTest}
use Rattle.podem.specs.declared.branching.End.{End}
use Rattle.podem.specs.declared.branching.End.TheVariants.{Closed, Detected, Spent}
use Rattle.podem.specs.declared.verdict.Verdict.{Verdict}
use Rattle.podem.specs.declared.verdict.Verdict.TheVariants as verdict
use Rattle.refutation.specs.Branches.{Branch, IsClosedOnSources, IsPartial, items_of, splits, untrieds}
use Rattle.refutation.specs.Facts.{Held}
use Rattle.refutation.specs.OpenSearch.{IsOpenSearch}
use Rattle.refutation.specs.declared.items.Item.{Item}
use Rattle.refutation.specs.declared.items.Item.TheVariants.{Here, Quiet}
use Rattle.refutation.specs.declared.reasoning.Fact.TheVariants.{Good}
use Rattle.rm_base.specs.declared.numbers.Fault.{Fault}
use Rattle.ternary_sim.specs.Marks.{good_at}
use Rattle.ternary_sim.specs.declared.marks.NodeMarks.{NodeMarks}

-- the good facts held on the sources are what the marks say of them
abbrev pub Tells : Net → List NodeMarks → Held → Type 0
Tells net marks held = (x : ℕ) → IsKind net x Source → (b : Bool) → held x (Good b) ≡ is_known b (good_at marks x)

-- a closed tree was written, two edges for each split
pub record ClosesBranch (net : Net) (fault : Fault) (held : Held) (old new : List Item) (before left : ℕ) : Type 0 where
  pub tree : Branch
  pub items : new ≡ old ++ items_of tree
  pub closed : IsClosedOnSources net fault held tree
  pub opens : IsOpenSearch net fault held tree
  pub edges : left + 2 * splits tree ≡ before

-- a partial tree was written, and every edge that was left was entered
pub record SpendsBranch (net : Net) (fault : Fault) (held : Held) (old new : List Item) (before : ℕ) : Type 0 where
  pub tree : Branch
  pub items : new ≡ old ++ items_of tree
  pub accepted : IsPartial net fault held tree
  pub opens : IsOpenSearch net fault held tree
  pub edges : 2 * splits tree ≡ before + untrieds tree

-- what the search of a branch comes to, the facts being those that the marks tell
abbrev pub EndsBranch : Net → Fault → List NodeMarks → List Item → List Item → ℕ → ℕ → End → Type 0
EndsBranch net fault marks old new before left (Detected bits) = IsTest net fault bits
EndsBranch net fault marks old new before left Closed = (held : Held) → Tells net marks held → ClosesBranch net fault held old new before left
EndsBranch net fault marks old new before left Spent = (held : Held) → Tells net marks held → SpendsBranch net fault held old new before

-- after a closed branch there is an edge left for a second branch that waits
abbrev pub LeavesSome : Bool → ℕ → End → Type 0
LeavesSome waiting left Closed = waiting ≡ true → 0 < left
LeavesSome waiting left _ = Unit {0}

-- a quiet branch ends with Quiet, or with Here where no edge is left for a second branch that waits
abbrev pub EndsQuiet : List Item → List Item → ℕ → Bool → End → Type 0
EndsQuiet old new left waiting (Detected bits) = ⊥
EndsQuiet old new left waiting Closed = (new ≡ old ++ Quiet ∷ []) × (waiting ≡ true → 0 < left)
EndsQuiet old new left waiting Spent = (new ≡ old ++ Here ∷ []) × (left ≡ 0)

-- the verdict of a search whose first branch ended so, with these items
abbrev pub verdict_in : End → List Item → Verdict
verdict_in (Detected bits) items = verdict.Detected bits
verdict_in Closed items = verdict.Refuted items
verdict_in Spent items = verdict.Spent items
