-- What the justifications of one gate teach.
use Rattle.std.specs.Prelude.{Bool, IsTrue, not, suc, ℕ, ◌≤◌}
use Rattle.gate_net.specs.Net.{Net}
use Rattle.recursive_learning.specs.Least.{AreForced}
use Rattle.refutation.specs.Closing.{IsWithin}
use Rattle.refutation.specs.Facts.{Held, with_fact}
use Rattle.refutation.specs.Learning.{AllHold, HasFew, IsClosedAt, IsJustification, IsUnjustified, LeadsToClash}
use Rattle.refutation.specs.declared.reasoning.Fact.TheVariants.{Good}
use Rattle.rm_base.specs.declared.numbers.Fault.{Fault}

-- each justification of the gate leads to a clash
abbrev pub AllClash : Net → Fault → ℕ → Held → ℕ → Bool → Type 0
AllClash net fault depth held y c = (d : ℕ) → IsJustification net held y d → LeadsToClash net fault depth (with_fact held d (Good c))

-- each justification of the gate leads to that good value
abbrev pub AllLead : Net → Fault → ℕ → Held → ℕ → Bool → ℕ → Bool → Type 0
AllLead net fault depth held y c x b =
    (d : ℕ) → IsJustification net held y d → AllHold (IsClosedAt net fault depth) (with_fact held d (Good c)) x (Good b)

-- where all justifications of a gate lead to a clash, so do the facts, one depth further
abbrev pub ClashesAreLearned : Type 0
ClashesAreLearned =
    (net : Net) (fault : Fault) (depth : ℕ) (held : Held) (y : ℕ) (c : Bool) → IsUnjustified net held y c → HasFew net held y
    → AllClash net fault depth held y c → LeadsToClash net fault (suc depth) held

-- where all lead to a good value, it is in each set that is closed one depth further
abbrev pub ValuesAreLearned : Type 0
ValuesAreLearned =
    (net : Net) (fault : Fault) (depth : ℕ) (held : Held) (y : ℕ) (c : Bool) → IsUnjustified net held y c → HasFew net held y
    → (x : ℕ) (b : Bool) → AllLead net fault depth held y c x b → AreForced net fault (suc depth) held (with_fact held x (Good b))

-- what leads to a clash still does under more facts
abbrev pub ClashesStay : Type 0
ClashesStay =
    (net : Net) (fault : Fault) (depth : ℕ) (held more : Held) → IsWithin held more → LeadsToClash net fault depth held → LeadsToClash net fault depth more

-- what leads to a clash at a depth still does at a larger one
abbrev pub ClashesDeepen : Type 0
ClashesDeepen =
    (net : Net) (fault : Fault) (level depth : ℕ) (held : Held) → level ≤ depth → LeadsToClash net fault level held → LeadsToClash net fault depth held

-- under the opposite of a learned value each justification leads to a clash, also with more facts
abbrev pub OppositesClash : Type 0
OppositesClash =
    (net : Net) (fault : Fault) (depth : ℕ) (held : Held) (y : ℕ) (c : Bool) (x : ℕ) (b : Bool) → AllLead net fault depth held y c x b
    → (d : ℕ) → IsJustification net held y d → (more : Held) → IsWithin (with_fact held d (Good c)) more → IsTrue (more x (Good (not b)))
    → LeadsToClash net fault depth more
