-- What a search for a test answers.
use Rattle.std.specs.Prelude.{Bool, List, Some, length, slice_get, true, ℕ, ◌+◌, ◌<◌, ◌≡◌}
use Rattle.gate_net.specs.Forward.{is_known}
use Rattle.gate_net.specs.Net.{Net, source_count}
use Rattle.gate_net.specs.Faults.{IsTest}
use Rattle.podem.specs.declared.verdict.Verdict.{Verdict}
use Rattle.podem.specs.declared.verdict.Verdict.TheVariants.{Detected, Refuted, Spent}
use Rattle.refutation.specs.Branches.{AreAccepted, Branch, IsPartial, edges, items_of}
use Rattle.refutation.specs.Facts.{none_held}
use Rattle.refutation.specs.OpenSearch.{IsOpenSearch}
use Rattle.refutation.specs.declared.items.Item.{Item}
use Rattle.rm_base.specs.declared.numbers.Fault.{Fault}
use Rattle.ternary_sim.specs.Marks.{good_at}
use Rattle.ternary_sim.specs.declared.marks.NodeMarks.{NodeMarks}
use Rattle.rm_base.specs.Numbers.{first_source}

-- an accepted partial tree of so many edges that is an open search
pub record IsSpent (net : Net) (fault : Fault) (budget : ℕ) (items : List Item) : Type 0 where
  pub tree : Branch
  pub same : items ≡ items_of tree
  pub accepted : IsPartial net fault none_held tree
  pub opens : IsOpenSearch net fault none_held tree
  pub size : edges tree ≡ budget

-- each verdict comes with its evidence
abbrev pub IsVerdict : Net → Fault → ℕ → Verdict → Type 0
IsVerdict net fault budget (Detected bits) = IsTest net fault bits
IsVerdict net fault budget (Refuted items) = AreAccepted net fault items
IsVerdict net fault budget (Spent items) = IsSpent net fault budget items

-- the search came to an end
abbrev pub IsDecided : Verdict → Type 0
IsDecided (Spent items) = ⊥
IsDecided _ = Unit {0}

-- the vector has a 1 exactly where the source is known to be 1
pub record IsVectorOf (net : Net) (marks : List NodeMarks) (bits : List Bool) : Type 0 where
  pub size : length bits ≡ source_count net
  pub values : (k : ℕ) → k < source_count net → slice_get bits k ≡ Some (is_known true (good_at marks (first_source + k)))
