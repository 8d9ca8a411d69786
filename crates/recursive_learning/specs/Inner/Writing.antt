-- Gates of which the tree shows the cases.
use Rattle.std.specs.Prelude.{Bool, IsTrue, List, Some, false, not, slice_get, true, ℕ, ◌<◌, ◌≡◌, ◌⊎◌}
use Rattle.gate_net.specs.Net.{Net, Reads}
use Rattle.gate_net.specs.Values.{IsJunction}
use Rattle.recursive_learning.specs.Inner.Gates.{HasTaught}
use Rattle.recursive_learning.specs.Inner.Telling.{Ends, Leads}
use Rattle.recursive_learning.specs.Inner.Working.{AreSettled}
use Rattle.refutation.specs.Closing.{IsWithin}
use Rattle.refutation.specs.FactSets.{held_by, missing}
use Rattle.refutation.specs.Facts.{Held, known_good}
use Rattle.refutation.specs.Learning.{LeadsToClash}
use Rattle.refutation.specs.declared.held.NodeFacts.{NodeFacts}
use Rattle.refutation.specs.declared.items.Item.{Item}
use Rattle.refutation.specs.declared.reasoning.Fact.TheVariants.{Good}
use Rattle.rm_base.specs.declared.numbers.Fault.{Fault}

-- more facts than now that hold the value of the driver lead to a clash at the depth
abbrev pub CaseClashes : Net → Fault → ℕ → Held → Bool → ℕ → Type 0
CaseClashes net fault depth now c d = (more : Held) → IsWithin now more → IsTrue (more d (Good c)) → LeadsToClash net fault depth more

-- a gate has its controlling value, and each driver is known to have the other or is in the list
pub record HasCases (net : Net) (now : Held) (c : Bool) (ds : List ℕ) : Type 0 where
  pub gate : ℕ
  pub junction : IsJunction net gate c
  pub known : known_good now gate ≡ Some c
  pub drivers : (p d : ℕ) → Reads net gate p d → (known_good now d ≡ Some (not c)) ⊎ ((k : ℕ) × (slice_get ds k ≡ Some d))
  pub reads : (k d : ℕ) → slice_get ds k ≡ Some d → (p : ℕ) × Reads net gate p d

-- and each driver of the list leads to a clash
pub record CasesClash (net : Net) (fault : Fault) (depth : ℕ) (now : Held) (c : Bool) (ds : List ℕ) : Type 0 where
  pub cases : HasCases net now c ds
  pub clash : (k d : ℕ) → slice_get ds k ≡ Some d → CaseClashes net fault depth now c d

-- each driver of the list and the opposite value of the node lead to a clash
pub record OppositeClashes (net : Net) (fault : Fault) (depth : ℕ) (now : Held) (c : Bool) (ds : List ℕ) (x : ℕ) (b : Bool) : Type 0 where
  pub cases : HasCases net now c ds
  pub clash : (k d : ℕ) → slice_get ds k ≡ Some d → (more : Held) → IsWithin now more → IsTrue (more d (Good c)) → IsTrue (more x (Good (not b))) → LeadsToClash net fault depth more

-- the branch has ended; or the gate implies nothing; or the branch has more facts
abbrev pub IsWritten : Net → Fault → ℕ → ℕ → List NodeFacts → List Item → Bool → List NodeFacts → List Item → Type 0
IsWritten net fault depth y old before true new after = Ends net fault (held_by old) before after
IsWritten net fault depth y old before false new after =
    ((new ≡ old) × ((after ≡ before) × HasTaught net fault depth (held_by old) y))
    ⊎ ((Leads net fault (held_by old) before (held_by new) after × AreSettled net fault (held_by new)) × (missing new < missing old))

-- none of the gates implies anything; or there are more facts
abbrev pub IsPassed : Net → Fault → ℕ → (ℕ → Type 0) → List NodeFacts → List NodeFacts → Type 0
IsPassed net fault depth gates start now = ((now ≡ start) × ((y : ℕ) → gates y → HasTaught net fault depth (held_by start) y)) ⊎ (missing now < missing start)
